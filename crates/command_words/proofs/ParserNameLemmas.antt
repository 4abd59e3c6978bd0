-- Arguments of a form fit a parser that has the options and positionals of the form.
use Rattle.std.proofs.Common.{◌≡◌, ◌≢◌, ◌+◌, ◌++◌, ℕ, false, List, [], ◌∷◌, length, min, refl, sym, arith}
use Rattle.std.specs.Prelude.{⊤, Contains}
use Rattle.std.specs.List.{All, AllPairs}
use Rattle.std.specs.Str.{bytes_eq}
use Rattle.std.proofs.lemmas.Bool.{or_parts, or_from}
use Rattle.std.proofs.lemmas.List.Elements.{All-head, All-tail}
use Rattle.clap.specs.Lexer.{usize_max}
use Rattle.clap.specs.Simple.{Shape}
use Rattle.clap.specs.Walk.{Row, has_row}
use Rattle.command_words.specs.Arguments.{ArgumentText, Argument, positional, option, positionals_in}
use Rattle.command_words.specs.Arguments.{names_in}
use Rattle.prefix_lattice.proofs.ListLemmas.{AllPairs-list_head, AllPairs-list_tail}
use Rattle.command_words.proofs.MatchRowLemmas.{match_row_name_is_other, match_row}
use Rattle.command_words.proofs.ParserWalkLemmas.{FitParserWalk, WalkKnowsPositional, IsNewInWalk, WalkKnowsOption}

-- a name without a row has none after a row of another name is added
parser_name_stays_new : (name id value : ArgumentText) (rows : List Row) → has_row name rows ≡ false → id ≢ name
    → has_row name (rows ++ match_row id value ∷ []) ≡ false
parser_name_stays_new name id value [] none apart = or_from _ _ (match_row_name_is_other id name apart) refl
parser_name_stays_new name id value (r ∷ rows) none apart =
    let parts = or_parts (bytes_eq r.id name) _ none in
    or_from _ _ parts.0 (parser_name_stays_new name id value rows parts.1 apart)

-- none of the names has a row
abbrev pub AreNewParserNames : List Row → List ArgumentText → Type 0
AreNewParserNames rows names = All (IsNewInWalk rows) names

parser_names_stay_new : (id value : ArgumentText) (rows : List Row) (names : List ArgumentText) → AreNewParserNames rows names
    → All (λ name. id ≢ name) names → AreNewParserNames (rows ++ match_row id value ∷ []) names
parser_names_stay_new id value rows names none apart = λ place default within.
    parser_name_stays_new _ id value rows (none place default within) (apart place default within)

-- a parser has these positionals, from a position on
abbrev pub ParserPlacesNames : Shape → ℕ → List ArgumentText → Type 0
ParserPlacesNames s position [] = ⊤
ParserPlacesNames s position (id ∷ ids) = WalkKnowsPositional s position id × ParserPlacesNames s (min (position + 1) usize_max) ids

module _ (options : List ArgumentText) where
  -- a name is not that of an option
  abbrev pub IsNoParserOptionName : ArgumentText → Type 0
  IsNoParserOptionName id = (name : ArgumentText) → Contains options name → id ≢ name

  -- none of the names is that of an option
  abbrev pub AreNoParserOptionNames : List ArgumentText → Type 0
  AreNoParserOptionNames ids = All IsNoParserOptionName ids

  parser_name_differs_from_known : (id : ArgumentText) (names : List ArgumentText) → IsNoParserOptionName id → All (λ name. Contains options name) names
      → All (λ name. id ≢ name) names
  parser_name_differs_from_known id names apart known = λ place default within. apart _ (known place default within)

  known_parser_name_differs : (name : ArgumentText) (ids : List ArgumentText) → Contains options name → AreNoParserOptionNames ids → All (λ id. name ≢ id) ids
  known_parser_name_differs name ids known apart = λ place default within same. apart place default within name known (sym same)

  -- arguments of a form fit the parser, if none of their names has a row yet
  pub arguments_fit_parser_names : (s : Shape) → ((name : ArgumentText) → Contains options name → WalkKnowsOption s name)
      → (position : ℕ) (ids : List ArgumentText) (rows : List Row) (arguments : List Argument)
      → ParserPlacesNames s position ids → AreNoParserOptionNames ids → AllPairs (λ a b. a ≢ b) ids
      → length (positionals_in arguments) ≡ length ids
      → All (λ name. Contains options name) (names_in arguments) → AllPairs (λ a b. a ≢ b) (names_in arguments)
      → AreNewParserNames rows ids → AreNewParserNames rows (names_in arguments)
      → FitParserWalk s position ids rows arguments
  arguments_fit_parser_names s knows position ids rows [] places apart distinct as_many known once fresh unused = tt
  arguments_fit_parser_names s knows position [] rows (positional text ∷ arguments) places apart distinct as_many known once fresh unused =
      absurd (omega arith)
  arguments_fit_parser_names s knows position (id ∷ ids) rows (positional text ∷ arguments) places apart distinct as_many known once fresh
      unused = (
        places.0,
        All-head (IsNewInWalk rows) id ids fresh,
        arguments_fit_parser_names s knows (min (position + 1) usize_max) ids (rows ++ match_row id text ∷ []) arguments places.1
            (All-tail IsNoParserOptionName id ids apart) (AllPairs-list_tail (λ a b. a ≢ b) id ids distinct) (omega arith) known once
            (parser_names_stay_new id text rows ids (All-tail (IsNewInWalk rows) id ids fresh)
            (AllPairs-list_head (λ a b. a ≢ b) id ids distinct))
            (parser_names_stay_new id text rows (names_in arguments) unused
            (parser_name_differs_from_known id (names_in arguments) (All-head IsNoParserOptionName id ids apart) known)),
      )
  arguments_fit_parser_names s knows position ids rows (option name value ∷ arguments) places apart distinct as_many known once fresh unused =
      let here = All-head (λ n. Contains options n) name (names_in arguments) known in (
        knows name here,
        All-head (IsNewInWalk rows) name (names_in arguments) unused,
        arguments_fit_parser_names s knows position ids (rows ++ match_row name value ∷ []) arguments places apart distinct as_many
            (All-tail (λ n. Contains options n) name (names_in arguments) known)
            (AllPairs-list_tail (λ a b. a ≢ b) name (names_in arguments) once)
            (parser_names_stay_new name value rows ids fresh (known_parser_name_differs name ids here apart))
            (parser_names_stay_new name value rows (names_in arguments)
            (All-tail (IsNewInWalk rows) name (names_in arguments) unused)
            (AllPairs-list_head (λ a b. a ≢ b) name (names_in arguments) once)),
      )
