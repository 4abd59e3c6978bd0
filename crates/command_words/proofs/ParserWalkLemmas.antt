-- How `clap` walks over words that spell arguments.
use Rattle.std.proofs.Common.{◌≡◌, ◌≢◌, ◌∙◌, ◌+◌, ◌&&◌, ◌||◌, ◌==◌, ◌++◌, ◌<◌, length, ℕ, Bool, true, false, cond}
use Rattle.std.proofs.Common.{List, [], ◌∷◌, Some, None, refl, ap, ap₂, min, append-nil, append_assoc, inl, inr}
use Rattle.std.specs.Prelude.{⊤, fold}
use Rattle.std.specs.Str.{bytes_eq}
use Rattle.std.proofs.lemmas.Bool.{ne_eqb, or_parts, and_from, and_parts}
use Rattle.std.proofs.lemmas.List.Sums.{fold-append}
use Rattle.clap.proofs.CutLemmas.{after_first-at, before_first-Lacks, before_first-at, list_any-Lacks, list_any-at}
use Rattle.clap.specs.Lexer.{usize_max, long_of, short_of}
use Rattle.clap.specs.Simple.{Shape, filled, with_index}
use Rattle.clap.specs.Takes.{settle_passes, turn_passes, use_passes, walk_passes}
use Rattle.clap.specs.Walk.{Held, Row, Rule, Walk, arg_by_id, arg_by_index, arg_by_long, at_row, has_row, idle}
use Rattle.clap.specs.Walk.{is_pending, more_values, pushed, settled, used, walked, without, option as awaits}
use Rattle.clap.specs.Words.{new_rule}
use Rattle.clap.specs.declared.parser.matches.ValueSource.TheVariants.{CommandLine}
use Rattle.command_words.specs.Arguments.{ArgumentText, Argument, positional, option, hyphen}
use Rattle.command_words.specs.Arguments.{equals_sign, IsValue, IsName}
use Rattle.command_words.specs.Arguments.{SpellAll, long_argument}
use Rattle.command_words.specs.Parsing.{rule_for}
use Rattle.command_words.proofs.MatchRowLemmas.{match_row, match_rows_of, match_row_name_is_same}

-- ---- rows

-- a change at a missing row appends the new rows
walk_changes_missing_row : (id : ArgumentText) (change : Row → List Row) (missing rows : List Row) → has_row id rows ≡ false
    → at_row id change missing rows ≡ rows ++ missing
walk_changes_missing_row id change missing [] none = refl
walk_changes_missing_row id change missing (r ∷ rows) none =
    let parts = or_parts (bytes_eq r.id id) _ none in
    rw parts.0 (ap (λ rs. r ∷ rs) (walk_changes_missing_row id change missing rows parts.1))

walk_without_missing_row : (id : ArgumentText) (rows : List Row) → has_row id rows ≡ false → without id rows ≡ rows
walk_without_missing_row id rows none = walk_changes_missing_row id (λ _. []) [] rows none ∙ append-nil rows

-- ---- the rules of a parser that is built

-- an option
abbrev pub parser_walk_option : ArgumentText → Rule
parser_walk_option name = filled (rule_for name)

-- a positional at an index, counted from 1
abbrev pub parser_walk_positional : ℕ → ArgumentText → Rule
parser_walk_positional place name = with_index place (filled (new_rule name))

-- a first use adds a row
parser_walk_uses_option : (name value : ArgumentText) (rows : List Row) → has_row name rows ≡ false
    → used (parser_walk_option name) (value ∷ []) rows ≡ rows ++ match_row name value ∷ []
parser_walk_uses_option name value rows none =
    rw (walk_without_missing_row name rows none)
    (walk_changes_missing_row name (more_values CommandLine (value ∷ [])) (match_row name value ∷ []) rows none)

parser_walk_uses_positional : (place : ℕ) (name value : ArgumentText) (rows : List Row) → has_row name rows ≡ false
    → used (parser_walk_positional place name) (value ∷ []) rows ≡ rows ++ match_row name value ∷ []
parser_walk_uses_positional place name value rows none =
    rw (walk_without_missing_row name rows none)
    (walk_changes_missing_row name (more_values CommandLine (value ∷ [])) (match_row name value ∷ []) rows none)

parser_walk_passes_option : (again : Bool) (name value : ArgumentText) (rows : List Row) → has_row name rows ≡ false
    → use_passes again (parser_walk_option name) (value ∷ []) rows ≡ true
parser_walk_passes_option again name value rows none = rw none refl

parser_walk_passes_positional : (again : Bool) (place : ℕ) (name value : ArgumentText) (rows : List Row) → has_row name rows ≡ false
    → use_passes again (parser_walk_positional place name) (value ∷ []) rows ≡ true
parser_walk_passes_positional again place name value rows none = rw none refl

-- ---- words

-- a value is no flag and no `--`
pub parser_walk_tells_value_apart : (text : ArgumentText) → IsValue text
    → (long_of text ≡ None) × (short_of text ≡ None) × (bytes_eq text (hyphen ∷ hyphen ∷ []) ≡ false)
parser_walk_tells_value_apart [] is_value = absurd is_value
parser_walk_tells_value_apart (byte ∷ text) is_value =
    let apart : (byte == hyphen) ≡ false = ne_eqb byte hyphen is_value in
    (rw apart refl, rw apart refl, rw apart refl)

-- a text that names an option in the words
pub record IsNamedInWalk (name : ArgumentText) : Type 0 where
  pub is_name : IsName name
  pub named : name ≢ []

parser_walk_cuts_lone_option : (name : ArgumentText) → IsNamedInWalk name → long_of (long_argument name) ≡ Some (name, None)
parser_walk_cuts_lone_option [] named = absurd (named.named refl)
parser_walk_cuts_lone_option (byte ∷ name) named =
    let lacks = λ (i : ℕ) (inside : i < length (byte ∷ name)). named.is_name i 0 inside in
    let no_sign = list_any-Lacks equals_sign (byte ∷ name) lacks in
    let whole = before_first-Lacks equals_sign (byte ∷ name) lacks in
    rw no_sign (ap (λ n. Some (n, None)) whole)

parser_walk_cuts_joined_option : (name value : ArgumentText) → IsNamedInWalk name
    → long_of (long_argument name ++ equals_sign ∷ value) ≡ Some (name, Some value)
parser_walk_cuts_joined_option [] value named = absurd (named.named refl)
parser_walk_cuts_joined_option (byte ∷ name) value named =
    let lacks = λ (i : ℕ) (inside : i < length (byte ∷ name)). named.is_name i 0 inside in
    let sign = list_any-at equals_sign (byte ∷ name) value in
    let front = before_first-at equals_sign (byte ∷ name) value lacks in
    let behind = after_first-at equals_sign (byte ∷ name) value lacks in
    rw sign (ap₂ (λ n v. Some (n, Some v)) front behind)

walk_tells_dashes_from_lone : (name : ArgumentText) → IsNamedInWalk name → bytes_eq (long_argument name) (hyphen ∷ hyphen ∷ []) ≡ false
walk_tells_dashes_from_lone [] named = absurd (named.named refl)
walk_tells_dashes_from_lone (byte ∷ name) named = refl

walk_tells_dashes_from_joined : (name value : ArgumentText) → IsNamedInWalk name
    → bytes_eq (long_argument name ++ equals_sign ∷ value) (hyphen ∷ hyphen ∷ []) ≡ false
walk_tells_dashes_from_joined [] value named = absurd (named.named refl)
walk_tells_dashes_from_joined (byte ∷ name) value named = refl

-- ---- the walk

-- the walk between two arguments
abbrev pub standing_walk : Held → ℕ → Walk
standing_walk held position = record {
  held = held;
  waiting = idle;
  position = position;
  is_trailing = false;
  stopped = None;
}

-- what is held gives these rows, once the pending value is used
pub record WalkHoldsRows (s : Shape) (held : Held) (rows : List Row) : Type 0 where
  pub passes : settle_passes s.rules s.args_override_self held ≡ true
  pub rows_are : (settled s.rules held).rows ≡ rows

-- words bring the walk to this position, and what is held to these rows
pub record WalkReaches (s : Shape) (start : Walk) (words : List ArgumentText) (position : ℕ) (rows : List Row) : Type 0 where
  pub held : Held
  pub ends : fold (walked s.rules []) start words ≡ standing_walk held position
  pub passes : walk_passes s [] start words ≡ true
  pub holds : WalkHoldsRows s held rows

walk_passes_both : (s : Shape) (start : Walk) (front others : List ArgumentText) → walk_passes s [] start front ≡ true
    → walk_passes s [] (fold (walked s.rules []) start front) others ≡ true
    → walk_passes s [] start (front ++ others) ≡ true
unfolding walk_passes
walk_passes_both s start [] others one two = two
walk_passes_both s start (word ∷ front) others one two =
    let parts = and_parts _ _ one in
    and_from _ _ parts.0 (walk_passes_both s (walked s.rules [] start word) front others parts.1 two)

-- words that follow other words
pub walk_reaches_both_halves : (s : Shape) (start : Walk) (front others : List ArgumentText) (middle position : ℕ)
    (between rows : List Row) → WalkReaches s start front middle between
    → ((held : Held) → WalkHoldsRows s held between → WalkReaches s (standing_walk held middle) others position rows)
    → WalkReaches s start (front ++ others) position rows
walk_reaches_both_halves s start front others middle position between rows one next =
    let two = next one.held one.holds in
    record {
      held = two.held;
      ends =
          fold-append (walked s.rules []) start front others ∙ ap (λ w. fold (walked s.rules []) w others) one.ends
          ∙ two.ends;
      passes = walk_passes_both s start front others one.passes (rw one.ends two.passes);
      holds = two.holds;
    }

-- one word
walk_reaches_by_word : (s : Shape) (start : Walk) (word : ArgumentText) (position : ℕ) (rows : List Row) (held : Held)
    → turn_passes s [] start word ≡ true
    → walked s.rules [] start word ≡ standing_walk held position → WalkHoldsRows s held rows
    → WalkReaches s start (word ∷ []) position rows
unfolding walk_passes
walk_reaches_by_word s start word position rows held passes is holds = record {
  held = held;
  ends = is;
  passes = rw passes refl;
  holds = holds;
}

module _ (s : Shape) (held : Held) (rows : List Row) (holds : WalkHoldsRows s held rows) (position : ℕ) where
  -- what is held while a value waits to be used
  abbrev pending_in_walk : ArgumentText → ArgumentText → Held
  pending_in_walk name value = record (settled s.rules held) { pending = Some (name, value ∷ []) }

  walk_holds_pending_option : (name value : ArgumentText) → arg_by_id s.rules name ≡ Some (parser_walk_option name)
      → has_row name rows ≡ false → WalkHoldsRows s (pending_in_walk name value) (rows ++ match_row name value ∷ [])
  walk_holds_pending_option name value known none = record {
    passes = rw (known, holds.rows_are) (parser_walk_passes_option s.args_override_self name value rows none);
    rows_are = rw (known, holds.rows_are) (parser_walk_uses_option name value rows none);
  }

  walk_holds_pending_positional : (place : ℕ) (name value : ArgumentText) → arg_by_id s.rules name ≡ Some (parser_walk_positional place name)
      → has_row name rows ≡ false
      → WalkHoldsRows s (pending_in_walk name value) (rows ++ match_row name value ∷ [])
  walk_holds_pending_positional place name value known none = record {
    passes = rw (known, holds.rows_are) (parser_walk_passes_positional s.args_override_self place name value rows none);
    rows_are = rw (known, holds.rows_are) (parser_walk_uses_positional place name value rows none);
  }

  walk_with_nothing_pending : (b : Bool) (h : Held) → cond (b && false) h (settled s.rules held) ≡ settled s.rules held
  walk_with_nothing_pending true h = refl
  walk_with_nothing_pending false h = refl

  walk_passes_settled_positional : (b : Bool) (settles : Bool) → settles ≡ true → ((b && false) || settles) ≡ true
  walk_passes_settled_positional true settles is = is
  walk_passes_settled_positional false settles is = is

  -- a positional
  pub walk_reaches_positional : (name value : ArgumentText) → IsValue value
      → arg_by_index s.rules position ≡ Some (parser_walk_positional position name)
      → arg_by_id s.rules name ≡ Some (parser_walk_positional position name) → has_row name rows ≡ false
      → WalkReaches s (standing_walk held position) (value ∷ []) (min (position + 1) usize_max) (rows ++ match_row name value ∷ [])
  unfolding walked
  walk_reaches_positional name value is_value placed known none =
      let apart = parser_walk_tells_value_apart value is_value in
      let passes : turn_passes s [] (standing_walk held position) value ≡ true =
      rw (apart.2, apart.0, apart.1, placed)
      (walk_passes_settled_positional (is_pending (parser_walk_positional position name) held.pending) _ holds.passes) in
      let is : walked s.rules [] (standing_walk held position) value
      ≡ standing_walk (pending_in_walk name value) (min (position + 1) usize_max) =
      rw (apart.2, apart.0, apart.1, placed)
      (ap (λ (h : Held). standing_walk (pushed name value h) (min (position + 1) usize_max))
      (walk_with_nothing_pending (is_pending (parser_walk_positional position name) held.pending) held)) in
      walk_reaches_by_word s (standing_walk held position) value (min (position + 1) usize_max) (rows ++ match_row name value ∷ [])
      (pending_in_walk name value) passes is (walk_holds_pending_positional position name value known none)

  -- the walk after a word that names an option
  abbrev awaiting_walk : ArgumentText → Walk
  awaiting_walk name = record (standing_walk (record (settled s.rules held) { pending = Some (name, []) }) position) {
    waiting = awaits name;
  }

  module _ (name value : ArgumentText) (named : IsNamedInWalk name) (is_value : IsValue value)
      (met : arg_by_long s.rules name ≡ Some (parser_walk_option name))
      (known : arg_by_id s.rules name ≡ Some (parser_walk_option name)) (none : has_row name rows ≡ false) where
    walk_passes_name : turn_passes s [] (standing_walk held position) (long_argument name) ≡ true
    walk_passes_name = rw (walk_tells_dashes_from_lone name named, parser_walk_cuts_lone_option name named, met, holds.passes) refl

    walk_takes_name : walked s.rules [] (standing_walk held position) (long_argument name) ≡ awaiting_walk name
    unfolding walked
    walk_takes_name = rw (walk_tells_dashes_from_lone name named, parser_walk_cuts_lone_option name named, met) refl

    walk_passes_value : turn_passes s [] (awaiting_walk name) value ≡ true
    walk_passes_value = let apart = parser_walk_tells_value_apart value is_value in rw (apart.2, apart.0, apart.1) refl

    walk_takes_value : walked s.rules [] (awaiting_walk name) value ≡ standing_walk (pending_in_walk name value) position
    unfolding walked
    walk_takes_value = let apart = parser_walk_tells_value_apart value is_value in rw (apart.2, apart.0, apart.1, known, match_row_name_is_same name) refl

    -- an option, and its value in the next word
    pub walk_reaches_option : WalkReaches s (standing_walk held position) (long_argument name ∷ value ∷ []) position
        (rows ++ match_row name value ∷ [])
    unfolding walk_passes
    walk_reaches_option = record {
      held = pending_in_walk name value;
      ends = ap (λ w. walked s.rules [] w value) walk_takes_name ∙ walk_takes_value;
      passes = rw (walk_passes_name, walk_takes_name, walk_passes_value) refl;
      holds = walk_holds_pending_option name value known none;
    }

    -- what is held after a word with its value
    abbrev joined_in_walk : Held
    joined_in_walk = record { rows = rows ++ match_row name value ∷ []; pending = None; skip = held.skip }

    walk_passes_joined_option : turn_passes s [] (standing_walk held position) (long_argument name ++ equals_sign ∷ value) ≡ true
    walk_passes_joined_option =
        rw (walk_tells_dashes_from_joined name value named, parser_walk_cuts_joined_option name value named, met, holds.rows_are, holds.passes, none)
        refl

    walk_takes_joined_option : walked s.rules [] (standing_walk held position) (long_argument name ++ equals_sign ∷ value)
        ≡ standing_walk joined_in_walk position
    unfolding walked
    walk_takes_joined_option =
        rw (walk_tells_dashes_from_joined name value named, parser_walk_cuts_joined_option name value named, met, holds.rows_are)
        (ap (λ rs. standing_walk (record { rows = rs; pending = None; skip = held.skip }) position)
        (parser_walk_uses_option name value rows none))

    -- an option and its value in one word
    pub walk_reaches_joined_option : WalkReaches s (standing_walk held position) ((long_argument name ++ equals_sign ∷ value) ∷ []) position
        (rows ++ match_row name value ∷ [])
    walk_reaches_joined_option =
        walk_reaches_by_word s (standing_walk held position) (long_argument name ++ equals_sign ∷ value) position
        (rows ++ match_row name value ∷ []) joined_in_walk walk_passes_joined_option walk_takes_joined_option
        (record { passes = refl; rows_are = refl })

-- ---- all words

-- a parser has this option
pub record WalkKnowsOption (s : Shape) (name : ArgumentText) : Type 0 where
  pub met : arg_by_long s.rules name ≡ Some (parser_walk_option name)
  pub known : arg_by_id s.rules name ≡ Some (parser_walk_option name)
  pub named : name ≢ []

-- a parser has this positional at a position
pub record WalkKnowsPositional (s : Shape) (position : ℕ) (id : ArgumentText) : Type 0 where
  pub placed : arg_by_index s.rules position ≡ Some (parser_walk_positional position id)
  pub known : arg_by_id s.rules id ≡ Some (parser_walk_positional position id)

-- no row is of this name
abbrev pub IsNewInWalk : List Row → ArgumentText → Type 0
IsNewInWalk rows name = has_row name rows ≡ false

-- a parser has these arguments, its positionals from a position on, and none has a row before
abbrev pub FitParserWalk : Shape → ℕ → List ArgumentText → List Row → List Argument → Type 0
FitParserWalk s position ids rows [] = ⊤
FitParserWalk s position [] rows (positional text ∷ arguments) = ⊥
FitParserWalk s position (id ∷ ids) rows (positional text ∷ arguments) =
    WalkKnowsPositional s position id × IsNewInWalk rows id
    × FitParserWalk s (min (position + 1) usize_max) ids (rows ++ match_row id text ∷ []) arguments
FitParserWalk s position ids rows (option name value ∷ arguments) =
    WalkKnowsOption s name × IsNewInWalk rows name × FitParserWalk s position ids (rows ++ match_row name value ∷ []) arguments

-- the position of the walk at the end
abbrev pub parser_walk_final_position : ℕ → List Argument → ℕ
parser_walk_final_position position [] = position
parser_walk_final_position position (positional text ∷ arguments) = parser_walk_final_position (min (position + 1) usize_max) arguments
parser_walk_final_position position (option name value ∷ arguments) = parser_walk_final_position position arguments

-- words after those of an argument
walk_reaches_more : (s : Shape) (start : Walk) (words front others : List ArgumentText) (middle position : ℕ)
    (before more : List Row) (found : Row) → words ≡ front ++ others
    → WalkReaches s start front middle (before ++ found ∷ [])
    → ((held : Held) → WalkHoldsRows s held (before ++ found ∷ [])
    → WalkReaches s (standing_walk held middle) others position ((before ++ found ∷ []) ++ more))
    → WalkReaches s start words position (before ++ found ∷ more)
walk_reaches_more s start words front others middle position before more found parted one next =
    rw (parted, ← append_assoc before (found ∷ []) more)
    (walk_reaches_both_halves s start front others middle position (before ++ found ∷ []) ((before ++ found ∷ []) ++ more)
    one next)

-- words that spell arguments bring the walk to the rows of the arguments
pub walk_reaches_all_arguments : (s : Shape) (words : List ArgumentText) (arguments : List Argument) (ids : List ArgumentText) (position : ℕ)
    (rows : List Row) (held : Held) → SpellAll words arguments
    → FitParserWalk s position ids rows arguments → WalkHoldsRows s held rows
    → WalkReaches s (standing_walk held position) words (parser_walk_final_position position arguments) (rows ++ match_rows_of ids arguments)
unfolding walk_passes
walk_reaches_all_arguments s words [] ids position rows held spelled fit holds =
    rw (spelled, append-nil rows) (record { held = held; ends = refl; passes = refl; holds = holds })
walk_reaches_all_arguments s words (positional text ∷ arguments) [] position rows held spelled fit holds = absurd fit
walk_reaches_all_arguments s words (positional text ∷ arguments) (id ∷ ids) position rows held spelled fit holds =
    walk_reaches_more s (standing_walk held position) words spelled.1.front spelled.0 (min (position + 1) usize_max)
    (parser_walk_final_position position (positional text ∷ arguments)) rows (match_rows_of ids arguments) (match_row id text)
    spelled.1.parted
    (rw spelled.1.spelled.1
    (walk_reaches_positional s held rows holds position id text spelled.1.spelled.0 fit.0.placed fit.0.known fit.1))
    (λ after behind.
    walk_reaches_all_arguments s spelled.0 arguments ids (min (position + 1) usize_max) (rows ++ match_row id text ∷ []) after
    spelled.2 fit.2 behind)
walk_reaches_all_arguments s words (option name value ∷ arguments) ids position rows held spelled fit holds =
    walk_reaches_more s (standing_walk held position) words spelled.1.front spelled.0 position
    (parser_walk_final_position position arguments) rows (match_rows_of ids arguments) (match_row name value)
    spelled.1.parted
    (elim spelled.1.spelled.2 [
      | inl apart ↦
          rw apart
          (walk_reaches_option s held rows holds position name value
          (record { is_name = spelled.1.spelled.0; named = fit.0.named }) spelled.1.spelled.1 fit.0.met
          fit.0.known fit.1)
      | inr joined_in_walk ↦
          rw joined_in_walk
          (walk_reaches_joined_option s held rows holds position name value
          (record { is_name = spelled.1.spelled.0; named = fit.0.named }) spelled.1.spelled.1 fit.0.met
          fit.0.known fit.1)
    ])
    (λ after behind.
    walk_reaches_all_arguments s spelled.0 arguments ids position (rows ++ match_row name value ∷ []) after spelled.2 fit.2 behind)
