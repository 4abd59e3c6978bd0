-- Options at the front of words, and the names behind them.
use Rattle.std.proofs.Common.{◌≡◌, ◌+◌, ◌-◌, ◌≤◌, ◌++◌, ◌∙◌, refl, sym, ap, subst, arith, Bor, ℕ, List, [], ◌∷◌, length}
use Rattle.std.proofs.Common.{take, drop, map, Option, None, Some}
use Rattle.std.specs.List.{All}
use Rattle.std.proofs.lemmas.List.{append_assoc, length-append, length-drop, length-map, map-append, take-append-drop}
use Rattle.std.proofs.lemmas.List.{drop-map, take-map, nil_from_length}
use Rattle.std.proofs.lemmas.List.Elements.{All-head}
use Rattle.std.proofs.Math.Seq.{take-append_seam, drop-append_seam}
use Rattle.command_words.specs.Arguments.{ArgumentText, Argument, positional, option, AreWellFormed, BeginWith, IsValue}
use Rattle.command_words.specs.Arguments.{positionals_in, argument_texts}
use Rattle.command_words.specs.Names.{AreOptionsThenNames, BeginWithOptions, options_alone}
use Rattle.command_words.specs.Scanning.{scanned_name}
use Rattle.command_words.proofs.OneReadingLemmas.{one_reading_of_empty_list, one_reading_of_first_argument}

-- names that stand where words begin begin with a positional
leading_option_is_no_name : (words names others : List ArgumentText) (argument : Argument) → words ≡ names → 1 ≤ length names
    → All IsValue names → BeginWith words argument others → scanned_name argument ≡ None
leading_option_is_no_name words [] others argument are some values begins = absurd (omega (arith, some))
leading_option_is_no_name words (name ∷ names) others argument are some values begins =
    let value = All-head IsValue name names values in
    ap scanned_name (one_reading_of_first_argument words others names argument (positional name) begins
    (record { front = name ∷ []; parted = are; spelled = (value, refl) })).0

-- words that begin with an option and others begin with that option
leading_option_begins : (words front names others : List ArgumentText) (argument : Argument) → words ≡ front ++ names
    → BeginWith front argument others → BeginWith words argument (others ++ names)
leading_option_begins words front names others argument parted begins = record {
  front = begins.front;
  parted = parted ∙ ap (λ f. f ++ names) begins.parted ∙ append_assoc begins.front others names;
  spelled = begins.spelled;
}

-- what is left of the options of words once some are passed: these many words were
pub record LeadingOptionsLeft (words : List ArgumentText) (from : ℕ) (front names : List ArgumentText) : Type 0 where
  pub behind : List ArgumentText
  pub rest : List Argument
  pub begins : BeginWithOptions words behind names rest
  pub count : from + length behind ≡ length front

-- at the start all are left
pub all_leading_options_left : (words front names : List ArgumentText) (arguments : List Argument)
    → BeginWithOptions words front names arguments → LeadingOptionsLeft words 0 front names
all_leading_options_left words front names arguments begins = record { behind = front; rest = arguments; begins = begins; count = omega arith }

-- after one more option, those behind it are left
leading_options_left_behind_one : (words others front names : List ArgumentText) (from step : ℕ) (argument : Argument)
    → length words ≡ step + length others → BeginWith words argument others → (scanned_name argument ≡ None → ⊥)
    → LeadingOptionsLeft words from front names → LeadingOptionsLeft others (from + step) front names
leading_options_left_behind_one words others front names from step argument count begins is_option left =
    go left.rest left.begins
  where
    go : (arguments : List Argument) → BeginWithOptions words left.behind names arguments
        → LeadingOptionsLeft others (from + step) front names
    go [] has =
        absurd (is_option
        (leading_option_is_no_name words names others argument (has.parted ∙ ap (λ f. f ++ names) has.spelled) has.some_names has.are_names
        begins))
    go (positional text ∷ arguments) has = absurd (one_reading_of_empty_list _ _ (sym has.no_positionals))
    go (option name value ∷ arguments) has =
        let once =
        one_reading_of_first_argument words others (has.spelled.0 ++ names) argument (option name value) begins
        (leading_option_begins words left.behind names has.spelled.0 (option name value) has.parted has.spelled.1) in
        let whole : length words ≡ length left.behind + length names =
        ap length has.parted ∙ length-append left.behind names in
        let later : length others ≡ length has.spelled.0 + length names =
        ap length once.1 ∙ length-append has.spelled.0 names in
        record {
          behind = has.spelled.0;
          rest = arguments;
          begins = record {
            parted = once.1;
            spelled = has.spelled.2;
            no_positionals = has.no_positionals;
            some_names = has.some_names;
            are_names = has.are_names;
          };
          count = omega (arith, whole, later, count, left.count);
        }

-- so it is with the words of a command line
pub leading_options_left_behind : (words : List (Bor ArgumentText)) (from step : ℕ) (front names : List ArgumentText) (argument : Argument)
    → from + step ≤ length words → BeginWith (argument_texts (drop from words)) argument (argument_texts (drop (from + step) words))
    → (scanned_name argument ≡ None → ⊥) → LeadingOptionsLeft (argument_texts (drop from words)) from front names
    → LeadingOptionsLeft (argument_texts (drop (from + step) words)) (from + step) front names
leading_options_left_behind words from step front names argument within begins is_option left =
    let texts : List (Bor ArgumentText) → ℕ = λ list. length (argument_texts list) in
    let many : (at : ℕ) → texts (drop at words) ≡ length words - at =
    λ at. length-map (drop at words) (λ (word : Bor ArgumentText). word.now) ∙ length-drop at words in
    leading_options_left_behind_one (argument_texts (drop from words)) (argument_texts (drop (from + step) words)) front names from step argument
    (omega (arith, within, many from, many (from + step))) begins is_option left

-- where no option begins the words, none is left
pub no_leading_option_left : (words front names : List ArgumentText) (from : ℕ)
    → ((name value : ArgumentText) (others : List ArgumentText) → BeginWith words (option name value) others → ⊥)
    → LeadingOptionsLeft words from front names → from ≡ length front
no_leading_option_left words front names from never left = go left.rest left.begins
  where
    go : (arguments : List Argument) → BeginWithOptions words left.behind names arguments → from ≡ length front
    go [] has =
        let none : length left.behind ≡ 0 = ap length has.spelled in omega (arith, none, left.count)
    go (positional text ∷ arguments) has = absurd (one_reading_of_empty_list _ _ (sym has.no_positionals))
    go (option name value ∷ arguments) has =
        absurd (never name value (has.spelled.0 ++ names)
        (leading_option_begins words left.behind names has.spelled.0 (option name value) has.parted has.spelled.1))

-- what has a name is an option
pub leading_option_has_name : (name : ArgumentText) → Path (Option ArgumentText) (Some name) None → ⊥
leading_option_has_name name same = cc

-- no option begins words that begin with a positional
pub no_leading_option_before_positional : (words others more : List ArgumentText) (argument : Argument) (name value : ArgumentText)
    → BeginWith words argument others → scanned_name argument ≡ None → BeginWith words (option name value) more → ⊥
no_leading_option_before_positional words others more argument name value begins is other =
    let same = one_reading_of_first_argument words others more argument (option name value) begins other in
    leading_option_has_name name (ap scanned_name (sym same.0) ∙ is)

-- words that are options and then names begin with options
pub leading_options_of_form : (options words front names : List ArgumentText) (are : AreOptionsThenNames options words front names)
    → BeginWithOptions words front names are.arguments
leading_options_of_form options words front names are = record {
  parted = are.parted;
  spelled = are.well_formed.spelled;
  no_positionals = nil_from_length (positionals_in are.arguments) are.well_formed.of_form.as_many;
  some_names = are.some_names;
  are_names = are.are_names;
}

-- the words before the count of the options, and those behind it, are the options and the names
pub leading_options_are_taken : (words : List (Bor ArgumentText)) (count : ℕ) (front names : List ArgumentText)
    → argument_texts words ≡ front ++ names → count ≡ length front → argument_texts (take count words) ≡ front
leading_options_are_taken words count front names parted is =
    let now : Bor ArgumentText → ArgumentText = λ word. word.now in
    sym (take-map now count words) ∙ ap (take count) parted ∙ ap (λ n. take n (front ++ names)) is ∙ take-append_seam front names

pub names_behind_leading_options : (words : List (Bor ArgumentText)) (count : ℕ) (front names : List ArgumentText)
    → argument_texts words ≡ front ++ names → count ≡ length front → argument_texts (drop count words) ≡ names
names_behind_leading_options words count front names parted is =
    let now : Bor ArgumentText → ArgumentText = λ word. word.now in
    sym (drop-map now count words) ∙ ap (drop count) parted ∙ ap (λ n. drop n (front ++ names)) is ∙ drop-append_seam front names

-- and the other way round
pub leading_options_of_count : (options : List ArgumentText) (words : List (Bor ArgumentText)) (count : ℕ) (arguments : List Argument)
    → count + 1 ≤ length words
    → AreWellFormed (options_alone options) (argument_texts (take count words)) arguments
    → All IsValue (argument_texts (drop count words))
    → AreOptionsThenNames options (argument_texts words) (argument_texts (take count words)) (argument_texts (drop count words))
leading_options_of_count options words count arguments within formed values =
    let now : Bor ArgumentText → ArgumentText = λ word. word.now in
    let many : length (argument_texts (drop count words)) ≡ length words - count =
    length-map (drop count words) now ∙ length-drop count words in
    record {
      parted = sym (sym (map-append now (take count words) (drop count words)) ∙ ap (map now) (take-append-drop count words));
      arguments = arguments;
      well_formed = formed;
      some_names = omega (arith, many, within);
      are_names = values;
    }

-- words without a name behind their options are none of these
pub leading_options_need_a_name : (options : List ArgumentText) (words : List (Bor ArgumentText)) (front names : List ArgumentText)
    → AreOptionsThenNames options (argument_texts words) front names → length words ≡ length front → ⊥
leading_options_need_a_name options words front names are none =
    let whole : length words ≡ length front + length names =
    sym (length-map words (λ (word : Bor ArgumentText). word.now)) ∙ ap length are.parted ∙ length-append front names in
    omega (arith, whole, are.some_names, none)

-- the options are well formed by themselves
pub leading_options_are_formed : (options : List ArgumentText) (words : List (Bor ArgumentText)) (count : ℕ) (front names : List ArgumentText)
    → count ≡ length front → AreOptionsThenNames options (argument_texts words) front names
    → (arguments : List Argument) × AreWellFormed (options_alone options) (argument_texts (take count words)) arguments
leading_options_are_formed options words count front names is are = (
  are.arguments,
  subst (λ texts. AreWellFormed (options_alone options) texts are.arguments)
      (sym (leading_options_are_taken words count front names are.parted is)) are.well_formed,
)

-- and what follows them can be values
pub names_behind_leading_options_are_values : (options : List ArgumentText) (words : List (Bor ArgumentText)) (count : ℕ) (front names : List ArgumentText)
    → count ≡ length front → AreOptionsThenNames options (argument_texts words) front names
    → All IsValue (argument_texts (drop count words))
names_behind_leading_options_are_values options words count front names is are =
    subst (All IsValue) (sym (names_behind_leading_options words count front names are.parted is)) are.are_names
