-- The parser of a command accepts well-formed words, and its matches hold their arguments.
use Rattle.std.proofs.Common.{◌≡◌, ◌≢◌, ◌∙◌, ℕ, Bool, true, false, cond, List, [], ◌∷◌, None, Some, true≢false}
use Rattle.std.proofs.Common.{eqb-true, length, refl, sym, ap, subst, codes, arith}
use Rattle.std.specs.Prelude.{Contains, fold}
use Rattle.std.specs.List.{All, AllPairs, list_all}
use Rattle.std.specs.Str.{bytes_eq}
use Rattle.std.proofs.lemmas.Bool.{and_parts}
use Rattle.std.proofs.lemmas.List.{get_or_default}
use Rattle.std.proofs.lemmas.List.Elements.{All-nil, All-from_recursion}
use Rattle.std.proofs.lemmas.List.Kept.{AllPairs-cons}
use Rattle.clap.specs.Simple.{Shape, built, is_simple}
use Rattle.clap.specs.Takes.{default_passes, is_valid, level_passes, takes}
use Rattle.clap.specs.Walk.{Row, Rule, arg_by_id, arg_by_long, default_rows, finished, has_row, is_empty}
use Rattle.clap.specs.Walk.{nothing_held, Walk, rows_after, stop_after, with_default}
use Rattle.clap.proofs.WalkLemmas.{first_value-rows}
use Rattle.clap.specs.Words.{App, first_of, found_of, matches_of, rows_of}
use Rattle.clap.specs.declared.builder.value_parser.Reading.{Reading}
use Rattle.clap.specs.declared.parser.matches.ArgMatches.{ArgMatches}
use Rattle.command_words.specs.Arguments.{ArgumentText, Argument, AreOfForm, AreWellFormed}
use Rattle.command_words.specs.FormNames.{form_of, word_of}
use Rattle.command_words.specs.Matches.{AreMatchesOf}
use Rattle.command_words.specs.Parsing.{parser_for}
use Rattle.command_words.specs.declared.command_word.CommandWord.{CommandWord}
use Rattle.command_words.specs.declared.command_word.CommandWord.TheVariants.{Weigh, Report, Format, Audit, Make, Demo, Watch}
use Rattle.command_words.proofs.ParserNameLemmas.{AreNoParserOptionNames, IsNoParserOptionName, ParserPlacesNames}
use Rattle.command_words.proofs.ParserNameLemmas.{arguments_fit_parser_names}
use Rattle.command_words.proofs.OneReadingLemmas.{one_reading_of_empty_list}
use Rattle.command_words.proofs.MatchRowLemmas.{match_row_name_at_place, match_row_name_is_same, match_rows_of}
use Rattle.command_words.proofs.MatchRowLemmas.{match_rows_give_named_value, match_rows_give_option}
use Rattle.command_words.proofs.MatchRowLemmas.{match_rows_give_positional}
use Rattle.command_words.proofs.ParserWalkLemmas.{WalkKnowsOption, WalkReaches, parser_walk_option}
use Rattle.command_words.proofs.ParserWalkLemmas.{parser_walk_final_position, walk_reaches_all_arguments, standing_walk}

-- ---- after the walk

-- an argument with no default value gets no row
parser_default_adds_no_row : (values : List ArgumentText) (b : Bool) (id : ArgumentText) (how : Reading) (rows : List Row) → is_empty values ≡ true
    → cond b rows (default_rows id how values rows) ≡ rows
parser_default_adds_no_row values true id how rows empty = refl
parser_default_adds_no_row [] false id how rows empty = refl
parser_default_adds_no_row (value ∷ values) false id how rows empty =
    let some : length (value ∷ values) ≡ 0 = eqb-true _ 0 empty in absurd (omega arith)

parser_defaults_add_no_rows : (rules : List Rule) (rows : List Row) → list_all (λ a. is_empty a.defaults) rules ≡ true
    → fold with_default rows rules ≡ rows
parser_defaults_add_no_rows [] rows empty = refl
parser_defaults_add_no_rows (a ∷ rules) rows empty =
    let parts = and_parts _ _ empty in
    ap (λ rs. fold with_default rs rules) (parser_default_adds_no_row a.defaults (has_row a.id rows) a.id _ rows parts.0)
    ∙ parser_defaults_add_no_rows rules rows parts.1

-- nothing is required, and nothing has a default
pub record ParserDemandsNothing (s : Shape) : Type 0 where
  pub empty : list_all (λ a. is_empty a.defaults) s.rules ≡ true
  pub passes : list_all default_passes s.rules ≡ true
  pub valid : (rows : List Row) → is_valid s rows false ≡ true

module _ (s : Shape) (demands_nothing : ParserDemandsNothing s) (words : List ArgumentText) (position : ℕ) (rows : List Row)
    (reached : WalkReaches s (standing_walk nothing_held 1) words position rows) where
  -- no row is added at the end
  pub parser_reaches_rows : rows_after s.rules [] words ≡ rows
  parser_reaches_rows = rw reached.ends (parser_defaults_add_no_rows s.rules _ demands_nothing.empty ∙ reached.holds.rows_are)

  -- no word is a subcommand
  pub parser_never_stops : stop_after s.rules [] words ≡ None
  parser_never_stops = ap (λ (w : Walk). w.stopped) reached.ends

  -- and the parse passes
  pub parser_level_passes : level_passes s [] nothing_held words false ≡ true
  parser_level_passes =
      rw (reached.passes, reached.ends, reached.holds.passes, demands_nothing.passes)
      (demands_nothing.valid (finished s.rules reached.held))

-- ---- the commands

-- the parser of a command
abbrev pub parser : CommandWord → App
parser command = parser_for (word_of command) (form_of command)

-- its shape, once it is built
abbrev pub parser_shape : CommandWord → Shape
parser_shape command = (built (parser command)).top

parser_demands_nothing : (command : CommandWord) → ParserDemandsNothing (parser_shape command)
parser_demands_nothing Weigh = record { empty = refl; passes = refl; valid = λ rows. refl }
parser_demands_nothing Report = record { empty = refl; passes = refl; valid = λ rows. refl }
parser_demands_nothing Format = record { empty = refl; passes = refl; valid = λ rows. refl }
parser_demands_nothing Audit = record { empty = refl; passes = refl; valid = λ rows. refl }
parser_demands_nothing Make = record { empty = refl; passes = refl; valid = λ rows. refl }
parser_demands_nothing Demo = record { empty = refl; passes = refl; valid = λ rows. refl }
parser_demands_nothing Watch = record { empty = refl; passes = refl; valid = λ rows. refl }

-- two texts that differ in a byte
parser_texts_are_apart : (text other : ArgumentText) → bytes_eq text other ≡ false → text ≢ other
parser_texts_are_apart text other differ same = true≢false (sym (match_row_name_is_same other) ∙ ap (λ t. bytes_eq t other) (sym same) ∙ differ)

-- what holds for all texts of a list holds for each text that it contains
parser_all_holds_of_each : (P : ArgumentText → Type 0) (texts : List ArgumentText) (name : ArgumentText) → All P texts → Contains texts name → P name
parser_all_holds_of_each P texts name all within = subst P within.2 (all within.0 name within.1)

-- an option that a look-up finds
parser_knows_found_option : (s : Shape) (byte : ℕ) (name : ArgumentText) → arg_by_long s.rules (byte ∷ name) ≡ Some (parser_walk_option (byte ∷ name))
    → arg_by_id s.rules (byte ∷ name) ≡ Some (parser_walk_option (byte ∷ name)) → WalkKnowsOption s (byte ∷ name)
parser_knows_found_option s byte name met known = record { met = met; known = known; named = λ same. one_reading_of_empty_list byte name (sym same) }

-- the parser of a command has each of its options, and its positionals in their order
parser_knows_each_option : (command : CommandWord) → All (WalkKnowsOption (parser_shape command)) (form_of command).options
parser_knows_each_option Weigh =
    let k = parser_knows_found_option (parser_shape Weigh) in
    All-from_recursion (WalkKnowsOption (parser_shape Weigh)) (form_of Weigh).options
    (k _ _ refl refl, (k _ _ refl refl, (k _ _ refl refl, tt)))
parser_knows_each_option Report =
    let k = parser_knows_found_option (parser_shape Report) in
    All-from_recursion (WalkKnowsOption (parser_shape Report)) (form_of Report).options (
      k _ _ refl refl,
      (
        k _ _ refl refl,
        (
          k _ _ refl refl,
          (
            k _ _ refl refl,
            (
              k _ _ refl refl,
              (
                k _ _ refl refl,
                (
                  k _ _ refl refl,
                  (k _ _ refl refl, (k _ _ refl refl, (k _ _ refl refl, (k _ _ refl refl, (k _ _ refl refl, (k _ _ refl refl, tt)))))),
                ),
              ),
            ),
          ),
        ),
      ),
    )
parser_knows_each_option Format =
    let k = parser_knows_found_option (parser_shape Format) in
    All-from_recursion (WalkKnowsOption (parser_shape Format)) (form_of Format).options
    (k _ _ refl refl, (k _ _ refl refl, (k _ _ refl refl, (k _ _ refl refl, (k _ _ refl refl, (k _ _ refl refl, tt))))))
parser_knows_each_option Audit =
    let k = parser_knows_found_option (parser_shape Audit) in
    All-from_recursion (WalkKnowsOption (parser_shape Audit)) (form_of Audit).options (
      k _ _ refl refl,
      (
        k _ _ refl refl,
        (
          k _ _ refl refl,
          (k _ _ refl refl, (k _ _ refl refl, (k _ _ refl refl, (k _ _ refl refl, (k _ _ refl refl, (k _ _ refl refl, tt)))))),
        ),
      ),
    )
parser_knows_each_option Make = All-nil (WalkKnowsOption (parser_shape Make))
parser_knows_each_option Demo =
    let k = parser_knows_found_option (parser_shape Demo) in
    All-from_recursion (WalkKnowsOption (parser_shape Demo)) (form_of Demo).options (
      k _ _ refl refl,
      (k _ _ refl refl, (k _ _ refl refl, (k _ _ refl refl, (k _ _ refl refl, (k _ _ refl refl, (k _ _ refl refl, tt)))))),
    )
parser_knows_each_option Watch =
    let k = parser_knows_found_option (parser_shape Watch) in
    All-from_recursion (WalkKnowsOption (parser_shape Watch)) (form_of Watch).options
    (k _ _ refl refl, (k _ _ refl refl, (k _ _ refl refl, (k _ _ refl refl, (k _ _ refl refl, tt)))))

parser_has_positional_places : (command : CommandWord) → ParserPlacesNames (parser_shape command) 1 (form_of command).positionals
parser_has_positional_places Weigh = (record { placed = refl; known = refl }, (record { placed = refl; known = refl }, tt))
parser_has_positional_places Report = tt
parser_has_positional_places Format = tt
parser_has_positional_places Audit = tt
parser_has_positional_places Make = (record { placed = refl; known = refl }, (record { placed = refl; known = refl }, tt))
parser_has_positional_places Demo = (record { placed = refl; known = refl }, (record { placed = refl; known = refl }, tt))
parser_has_positional_places Watch = tt

-- a name that differs from all options of `weigh` is not that of an option
no_option_of_weigh_parser : (id : ArgumentText) → bytes_eq id (codes "capture") ≡ false → bytes_eq id (codes "weigh") ≡ false
    → bytes_eq id (codes "front") ≡ false → IsNoParserOptionName (form_of Weigh).options id
no_option_of_weigh_parser id capture weigh front name within =
    parser_all_holds_of_each (λ other. id ≢ other) (form_of Weigh).options name
    (All-from_recursion (λ other. id ≢ other) (form_of Weigh).options
    (parser_texts_are_apart id _ capture, (parser_texts_are_apart id _ weigh, (parser_texts_are_apart id _ front, tt)))) within

-- nor is one that differs from all options of `demo`
no_option_of_demo_parser : (id : ArgumentText) → bytes_eq id (codes "shards") ≡ false → bytes_eq id (codes "capacity") ≡ false
    → bytes_eq id (codes "phi") ≡ false → bytes_eq id (codes "deal") ≡ false
    → bytes_eq id (codes "block") ≡ false → bytes_eq id (codes "workers") ≡ false
    → bytes_eq id (codes "bits") ≡ false → IsNoParserOptionName (form_of Demo).options id
no_option_of_demo_parser id shards capacity phi deal block workers bits name within =
    parser_all_holds_of_each (λ other. id ≢ other) (form_of Demo).options name
    (All-from_recursion (λ other. id ≢ other) (form_of Demo).options (
      parser_texts_are_apart id _ shards,
      (
        parser_texts_are_apart id _ capacity,
        (
          parser_texts_are_apart id _ phi,
          (
            parser_texts_are_apart id _ deal,
            (parser_texts_are_apart id _ block, (parser_texts_are_apart id _ workers, (parser_texts_are_apart id _ bits, tt))),
          ),
        ),
      ),
    )) within

no_options_of_parser : (command : CommandWord) → AreNoParserOptionNames (form_of command).options (form_of command).positionals
no_options_of_parser Weigh =
    All-from_recursion (IsNoParserOptionName (form_of Weigh).options) (form_of Weigh).positionals
    (no_option_of_weigh_parser _ refl refl refl, (no_option_of_weigh_parser _ refl refl refl, tt))
no_options_of_parser Report = All-nil (IsNoParserOptionName (form_of Report).options)
no_options_of_parser Format = All-nil (IsNoParserOptionName (form_of Format).options)
no_options_of_parser Audit = All-nil (IsNoParserOptionName (form_of Audit).options)
no_options_of_parser Make =
    All-from_recursion (IsNoParserOptionName []) (form_of Make).positionals (
      λ name within. omega (arith, within.1),
      (λ name within. omega (arith, within.1), tt),
    )
no_options_of_parser Demo =
    All-from_recursion (IsNoParserOptionName (form_of Demo).options) (form_of Demo).positionals (
      no_option_of_demo_parser _ refl refl refl refl refl refl refl,
      (no_option_of_demo_parser _ refl refl refl refl refl refl refl, tt),
    )
no_options_of_parser Watch = All-nil (IsNoParserOptionName (form_of Watch).options)

empty_parser_texts_are_apart : AllPairs {X = ArgumentText} (λ a b. a ≢ b) []
empty_parser_texts_are_apart = λ earlier later default before within. absurd (omega arith)

two_parser_texts_are_apart : (one two : ArgumentText) → bytes_eq one two ≡ false → AllPairs (λ a b. a ≢ b) (one ∷ two ∷ [])
two_parser_texts_are_apart one two differ = AllPairs-cons (λ a b. a ≢ b) one (two ∷ [])
    (All-from_recursion (λ b. one ≢ b) (two ∷ []) (parser_texts_are_apart one two differ, tt))
    (AllPairs-cons (λ a b. a ≢ b) two [] (All-nil (λ b. two ≢ b)) empty_parser_texts_are_apart)

-- the positionals of a command have different names
parser_positionals_are_apart : (command : CommandWord) → AllPairs (λ a b. a ≢ b) (form_of command).positionals
parser_positionals_are_apart Weigh = two_parser_texts_are_apart (codes "SRC") (codes "DST") refl
parser_positionals_are_apart Report = empty_parser_texts_are_apart
parser_positionals_are_apart Format = empty_parser_texts_are_apart
parser_positionals_are_apart Audit = empty_parser_texts_are_apart
parser_positionals_are_apart Make = two_parser_texts_are_apart (codes "SEED") (codes "FRAMES") refl
parser_positionals_are_apart Demo = two_parser_texts_are_apart (codes "SEED") (codes "FRAMES") refl
parser_positionals_are_apart Watch = empty_parser_texts_are_apart

-- well-formed words bring the walk to the rows of their arguments
module _ (command : CommandWord) (words : List ArgumentText) (arguments : List Argument)
    (well_formed : AreWellFormed (form_of command) words arguments) where
  parser_reaches_form_rows : WalkReaches (parser_shape command) (standing_walk nothing_held 1) words (parser_walk_final_position 1 arguments)
      (match_rows_of (form_of command).positionals arguments)
  parser_reaches_form_rows =
      let of_form = well_formed.of_form in
      let knows =
      λ (name : ArgumentText) (within : Contains (form_of command).options name).
      parser_all_holds_of_each (WalkKnowsOption (parser_shape command)) (form_of command).options name (parser_knows_each_option command) within in
      let fits = arguments_fit_parser_names (form_of command).options (parser_shape command) knows 1 (form_of command).positionals [] arguments
      (parser_has_positional_places command) (no_options_of_parser command) (parser_positionals_are_apart command) of_form.as_many of_form.known
      of_form.once (λ place default within. refl) (λ place default within. refl) in
      walk_reaches_all_arguments (parser_shape command) words arguments (form_of command).positionals 1 [] nothing_held
      well_formed.spelled fits (record { passes = refl; rows_are = refl })

-- the parser accepts the words
pub parser_takes_well_formed : (command : CommandWord) (words : List ArgumentText) (arguments : List Argument)
    → AreWellFormed (form_of command) words arguments → takes (parser command) words ≡ true
parser_takes_well_formed Weigh words arguments well_formed =
    let reached = parser_reaches_form_rows Weigh words arguments well_formed in
    rw (parser_never_stops (parser_shape Weigh) (parser_demands_nothing Weigh) words _ _ reached)
    (parser_level_passes (parser_shape Weigh) (parser_demands_nothing Weigh) words _ _ reached)
parser_takes_well_formed Report words arguments well_formed =
    let reached = parser_reaches_form_rows Report words arguments well_formed in
    rw (parser_never_stops (parser_shape Report) (parser_demands_nothing Report) words _ _ reached)
    (parser_level_passes (parser_shape Report) (parser_demands_nothing Report) words _ _ reached)
parser_takes_well_formed Format words arguments well_formed =
    let reached = parser_reaches_form_rows Format words arguments well_formed in
    rw (parser_never_stops (parser_shape Format) (parser_demands_nothing Format) words _ _ reached)
    (parser_level_passes (parser_shape Format) (parser_demands_nothing Format) words _ _ reached)
parser_takes_well_formed Audit words arguments well_formed =
    let reached = parser_reaches_form_rows Audit words arguments well_formed in
    rw (parser_never_stops (parser_shape Audit) (parser_demands_nothing Audit) words _ _ reached)
    (parser_level_passes (parser_shape Audit) (parser_demands_nothing Audit) words _ _ reached)
parser_takes_well_formed Make words arguments well_formed =
    let reached = parser_reaches_form_rows Make words arguments well_formed in
    rw (parser_never_stops (parser_shape Make) (parser_demands_nothing Make) words _ _ reached)
    (parser_level_passes (parser_shape Make) (parser_demands_nothing Make) words _ _ reached)
parser_takes_well_formed Demo words arguments well_formed =
    let reached = parser_reaches_form_rows Demo words arguments well_formed in
    rw (parser_never_stops (parser_shape Demo) (parser_demands_nothing Demo) words _ _ reached)
    (parser_level_passes (parser_shape Demo) (parser_demands_nothing Demo) words _ _ reached)
parser_takes_well_formed Watch words arguments well_formed =
    let reached = parser_reaches_form_rows Watch words arguments well_formed in
    rw (parser_never_stops (parser_shape Watch) (parser_demands_nothing Watch) words _ _ reached)
    (parser_level_passes (parser_shape Watch) (parser_demands_nothing Watch) words _ _ reached)

-- and finds the rows of their arguments
pub parser_finds_well_formed : (command : CommandWord) (words : List ArgumentText) (arguments : List Argument)
    → AreWellFormed (form_of command) words arguments
    → matches_of (parser command) words ≡ match_rows_of (form_of command).positionals arguments
parser_finds_well_formed Weigh words arguments well_formed =
    parser_reaches_rows (parser_shape Weigh) (parser_demands_nothing Weigh) words _ _ (parser_reaches_form_rows Weigh words arguments well_formed)
parser_finds_well_formed Report words arguments well_formed =
    parser_reaches_rows (parser_shape Report) (parser_demands_nothing Report) words _ _ (parser_reaches_form_rows Report words arguments well_formed)
parser_finds_well_formed Format words arguments well_formed =
    parser_reaches_rows (parser_shape Format) (parser_demands_nothing Format) words _ _ (parser_reaches_form_rows Format words arguments well_formed)
parser_finds_well_formed Audit words arguments well_formed =
    parser_reaches_rows (parser_shape Audit) (parser_demands_nothing Audit) words _ _ (parser_reaches_form_rows Audit words arguments well_formed)
parser_finds_well_formed Make words arguments well_formed =
    parser_reaches_rows (parser_shape Make) (parser_demands_nothing Make) words _ _ (parser_reaches_form_rows Make words arguments well_formed)
parser_finds_well_formed Demo words arguments well_formed =
    parser_reaches_rows (parser_shape Demo) (parser_demands_nothing Demo) words _ _ (parser_reaches_form_rows Demo words arguments well_formed)
parser_finds_well_formed Watch words arguments well_formed =
    parser_reaches_rows (parser_shape Watch) (parser_demands_nothing Watch) words _ _ (parser_reaches_form_rows Watch words arguments well_formed)

-- the parser is one of which `clap` says what it finds
pub simple_parser : (command : CommandWord) → is_simple (parser command) ≡ true
simple_parser Weigh = refl
simple_parser Report = refl
simple_parser Format = refl
simple_parser Audit = refl
simple_parser Make = refl
simple_parser Demo = refl
simple_parser Watch = refl

-- ---- what the matches hold

parser_texts_all_differ : (texts : List ArgumentText) (name : ArgumentText) → (Contains texts name → ⊥) → All (λ text. text ≢ name) texts
parser_texts_all_differ texts name never = λ place default within same.
    never (place, within, get_or_default texts place name default within ∙ same)

-- matches with the rows of arguments hold the arguments
pub parser_found_tells_arguments : (command : CommandWord) (arguments : List Argument) (matches : ArgMatches)
    → AreOfForm (form_of command) arguments
    → rows_of (found_of matches) ≡ match_rows_of (form_of command).positionals arguments
    → AreMatchesOf (form_of command) arguments matches
parser_found_tells_arguments command arguments matches of_form rows = record {
  options = λ name never. first_value-rows (found_of matches) name ∙ ap (first_of name) rows
      ∙ match_rows_give_option name (form_of command).positionals arguments
      (parser_texts_all_differ (form_of command).positionals name never);
  positionals = λ place name at. first_value-rows (found_of matches) name ∙ ap (first_of name) rows
      ∙ match_rows_give_positional place name (form_of command).positionals arguments at (parser_positionals_are_apart command)
      (λ k default within same.
      match_row_name_at_place (IsNoParserOptionName (form_of command).options) place name (form_of command).positionals at
      (no_options_of_parser command) _ (of_form.known k default within) (sym same));
  by_name = λ name. first_value-rows (found_of matches) name ∙ ap (first_of name) rows
      ∙ match_rows_give_named_value name (form_of command).positionals arguments;
}
