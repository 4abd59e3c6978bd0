-- What `clap` finds for arguments, and what a look-up by name gives.
use Rattle.std.proofs.Common.{◌≡◌, ◌≢◌, ◌∙◌, ℕ, zero, suc, Bool, true, false, List, [], ◌∷◌, Some, None, refl, subst}
use Rattle.std.specs.Prelude.{slice_get}
use Rattle.std.specs.List.{All, AllPairs}
use Rattle.std.specs.Str.{bytes_eq}
use Rattle.std.proofs.lemmas.Bool.{false_from_ne_true}
use Rattle.std.proofs.lemmas.List.Elements.{All-head, All-tail}
use Rattle.std.proofs.lemmas.Slice.Eq.{bytes_eq-Decides}
use Rattle.clap.specs.Words.{Row, first_of}
use Rattle.clap.specs.declared.builder.value_parser.Reading.TheVariants.{AsWritten}
use Rattle.clap.specs.declared.parser.matches.ValueSource.TheVariants.{CommandLine}
use Rattle.command_words.specs.Arguments.{ArgumentText, Argument, positional, option, positionals_in}
use Rattle.command_words.specs.Arguments.{names_in, value_of}
use Rattle.command_words.specs.Arguments.{named}
use Rattle.prefix_lattice.proofs.ListLemmas.{AllPairs-list_head, AllPairs-list_tail}

-- a text is equal to itself, and to no other
pub match_row_name_is_same : (text : ArgumentText) → bytes_eq text text ≡ true
match_row_name_is_same text = (bytes_eq-Decides text text).1 refl

pub match_row_name_is_other : (text other : ArgumentText) → text ≢ other → bytes_eq text other ≡ false
match_row_name_is_other text other apart = false_from_ne_true _ (λ same. apart ((bytes_eq-Decides text other).0 same))

-- what holds for each text holds for the one at an index
pub match_row_name_at_place : (P : ArgumentText → Type 0) (place : ℕ) (name : ArgumentText) (texts : List ArgumentText) → slice_get texts place ≡ Some name
    → All P texts → P name
match_row_name_at_place P place name [] at all = let wrong : ⊥ = cc in absurd wrong
match_row_name_at_place P zero name (text ∷ texts) at all = let same : text ≡ name = cc in subst P same (All-head P text texts all)
match_row_name_at_place P (suc place) name (text ∷ texts) at all = match_row_name_at_place P place name texts at (All-tail P text texts all)

-- what is found for a name that has this value
abbrev pub match_row : ArgumentText → ArgumentText → Row
match_row name value = record { id = name; values = value ∷ []; count = None; source = Some CommandLine; reading = AsWritten }

-- the rows that arguments give, where the positionals have these names
abbrev pub match_rows_of : List ArgumentText → List Argument → List Row
match_rows_of ids [] = []
match_rows_of [] (positional text ∷ arguments) = match_rows_of [] arguments
match_rows_of (id ∷ ids) (positional text ∷ arguments) = match_row id text ∷ match_rows_of ids arguments
match_rows_of ids (option name value ∷ arguments) = match_row name value ∷ match_rows_of ids arguments

-- what is found first, by whether the row in front has the name
match_row_is_found_first : (name id value : ArgumentText) (rows : List Row) → id ≡ name → first_of name (match_row id value ∷ rows) ≡ Some value
match_row_is_found_first name id value rows same = rw (same, match_row_name_is_same name) refl

match_row_is_found_behind : (name id value : ArgumentText) (rows : List Row) → id ≢ name
    → first_of name (match_row id value ∷ rows) ≡ first_of name rows
match_row_is_found_behind name id value rows apart = rw (match_row_name_is_other id name apart) refl

-- rows and arguments give a name the same value, if those after the first row and the first argument do
match_row_named_behind : (name other value : ArgumentText) (rows : List Row) (arguments : List Argument)
    → first_of name rows ≡ value_of name arguments
    → first_of name (match_row other value ∷ rows) ≡ value_of name (option other value ∷ arguments)
match_row_named_behind name other value rows arguments behind = go (bytes_eq other name) refl
  where
    go : (b : Bool) → bytes_eq other name ≡ b
        → first_of name (match_row other value ∷ rows) ≡ value_of name (option other value ∷ arguments)
    go true is = rw is refl
    go false is = rw is behind

-- a name gives the value of the argument of that name
pub match_rows_give_named_value : (name : ArgumentText) (ids : List ArgumentText) (arguments : List Argument)
    → first_of name (match_rows_of ids arguments) ≡ value_of name (named ids arguments)
match_rows_give_named_value name ids [] = refl
match_rows_give_named_value name [] (positional text ∷ arguments) = match_rows_give_named_value name [] arguments
match_rows_give_named_value name (id ∷ ids) (positional text ∷ arguments) =
    match_row_named_behind name id text (match_rows_of ids arguments) (named ids arguments) (match_rows_give_named_value name ids arguments)
match_rows_give_named_value name ids (option other value ∷ arguments) =
    match_row_named_behind name other value (match_rows_of ids arguments) (named ids arguments) (match_rows_give_named_value name ids arguments)

-- the name of an option gives its value
pub match_rows_give_option : (name : ArgumentText) (ids : List ArgumentText) (arguments : List Argument) → All (λ id. id ≢ name) ids
    → first_of name (match_rows_of ids arguments) ≡ value_of name arguments
match_rows_give_option name ids [] apart = refl
match_rows_give_option name [] (positional text ∷ arguments) apart = match_rows_give_option name [] arguments apart
match_rows_give_option name (id ∷ ids) (positional text ∷ arguments) apart =
    match_row_is_found_behind name id text (match_rows_of ids arguments) (All-head (λ i. i ≢ name) id ids apart)
    ∙ match_rows_give_option name ids arguments (All-tail (λ i. i ≢ name) id ids apart)
match_rows_give_option name ids (option other value ∷ arguments) apart =
    match_row_named_behind name other value (match_rows_of ids arguments) arguments (match_rows_give_option name ids arguments apart)

-- the name of a positional gives the positional at the same index
pub match_rows_give_positional : (place : ℕ) (name : ArgumentText) (ids : List ArgumentText) (arguments : List Argument)
    → slice_get ids place ≡ Some name → AllPairs (λ a b. a ≢ b) ids
    → All (λ other. other ≢ name) (names_in arguments)
    → first_of name (match_rows_of ids arguments) ≡ slice_get (positionals_in arguments) place
match_rows_give_positional place name ids [] at distinct apart = refl
match_rows_give_positional place name [] (positional text ∷ arguments) at distinct apart = cc
match_rows_give_positional zero name (id ∷ ids) (positional text ∷ arguments) at distinct apart =
    match_row_is_found_first name id text (match_rows_of ids arguments) cc
match_rows_give_positional (suc place) name (id ∷ ids) (positional text ∷ arguments) at distinct apart =
    match_row_is_found_behind name id text (match_rows_of ids arguments)
    (match_row_name_at_place (λ other. id ≢ other) place name ids at (AllPairs-list_head (λ a b. a ≢ b) id ids distinct))
    ∙ match_rows_give_positional place name ids arguments at (AllPairs-list_tail (λ a b. a ≢ b) id ids distinct) apart
match_rows_give_positional place name ids (option other value ∷ arguments) at distinct apart =
    match_row_is_found_behind name other value (match_rows_of ids arguments) (All-head (λ o. o ≢ name) other (names_in arguments) apart)
    ∙ match_rows_give_positional place name ids arguments at distinct (All-tail (λ o. o ≢ name) other (names_in arguments) apart)
