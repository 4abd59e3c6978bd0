-- Which words fit a form, by the argument at their front.
use Rattle.std.proofs.Common.{◌≡◌, ◌≢◌, ◌-◌, ◌<◌, sym, ap, ◌∙◌, subst, List, [], ◌∷◌, length, ℕ, Some, None, arith}
use Rattle.std.specs.List.{All, AllPairs, Contains}
use Rattle.std.proofs.lemmas.List.Elements.{All-nil, All-cons, All-head, All-tail, All-contains, Contains-get_or}
use Rattle.std.proofs.lemmas.List.Kept.{AllPairs-cons}
use Rattle.command_words.specs.Arguments.{ArgumentText, Argument, positional, option, ArgumentForm}
use Rattle.command_words.specs.Arguments.{AreWellFormed, BeginWith}
use Rattle.command_words.specs.Arguments.{SpellAll, positionals_in, names_in}
use Rattle.command_words.specs.Scanning.{scanned_name, FitsRest}
use Rattle.command_words.proofs.ArgumentTailLemmas.{argument_tail_follows, argument_tail_is_empty}
use Rattle.prefix_lattice.proofs.ListLemmas.{AllPairs-list_head, AllPairs-list_tail}

-- the words spell this many positionals, and options of the form, none of them twice
abbrev pub FitForm : ArgumentForm → ℕ → List ArgumentText → Type 0
FitForm form positionals words = (arguments : List Argument) × FitsRest form positionals words arguments

-- an empty list of words fits if no positional is asked for
pub empty_words_fit_form : (form : ArgumentForm) (positionals : ℕ) (words : List ArgumentText) → words ≡ [] → positionals ≡ 0
    → FitForm form positionals words
empty_words_fit_form form positionals words none zero = (
  [],
  record {
    spelled = none;
    as_many = sym zero;
    known = All-nil (λ name. Contains form.options name);
    once = λ i j d before within. absurd (omega (arith, within));
  },
)

-- if words that begin with no argument fit, there are none of them, and no positional is asked for
pub form_fit_without_argument : (form : ArgumentForm) (positionals : ℕ) (words : List ArgumentText)
    → ((argument : Argument) (others : List ArgumentText) → BeginWith words argument others → ⊥) → FitForm form positionals words
    → (words ≡ []) × (positionals ≡ 0)
form_fit_without_argument form positionals words never (arguments, fits) =
    let none = argument_tail_is_empty words arguments never fits.spelled in
    (subst (SpellAll words) none fits.spelled, sym fits.as_many ∙ ap (λ list. length (positionals_in list)) none)

-- words with a positional at their front fit if a positional is asked for, and those after it fit with one less
pub positional_fits_form : (form : ArgumentForm) (positionals : ℕ) (words others : List ArgumentText) (argument : Argument)
    → BeginWith words argument others → None ≡ scanned_name argument → 0 < positionals
    → FitForm form (positionals - 1) others → FitForm form positionals words
positional_fits_form form positionals words others (positional text) begins is more (arguments, fits) = (
  positional text ∷ arguments,
  record {
    spelled = (others, begins, fits.spelled);
    as_many = omega (arith, fits.as_many);
    known = fits.known;
    once = fits.once;
  },
)
positional_fits_form form positionals words others (option name value) begins is more fits = cc

-- and only if that is so
pub form_fit_behind_positional : (form : ArgumentForm) (positionals : ℕ) (words others : List ArgumentText) (argument : Argument)
    → BeginWith words argument others → None ≡ scanned_name argument
    → FitForm form positionals words → (0 < positionals) × FitForm form (positionals - 1) others
form_fit_behind_positional form positionals words others (option name value) begins is fits = cc
form_fit_behind_positional form positionals words others (positional text) begins is (arguments, fits) =
    let behind = argument_tail_follows words others (positional text) arguments begins fits.spelled in
    let as_many : length (positionals_in (positional text ∷ behind.rest)) ≡ positionals =
    subst (λ list. length (positionals_in list) ≡ positionals) behind.are fits.as_many in (
      omega (arith, as_many),
      (
        behind.rest,
        record {
          spelled = behind.spelled;
          as_many = omega (arith, as_many);
          known = subst (λ list. All (λ name. Contains form.options name) (names_in list)) behind.are fits.known;
          once = subst (λ list. AllPairs (λ name other. name ≢ other) (names_in list)) behind.are fits.once;
        },
      ),
    )

-- words with an option at their front fit if the form knows it, those after it fit, and it is missing among them
pub option_fits_form : (form : ArgumentForm) (positionals : ℕ) (words others : List ArgumentText) (argument : Argument) (name : ArgumentText)
    → BeginWith words argument others → Some name ≡ scanned_name argument
    → Contains form.options name
    → ((arguments : List Argument) → SpellAll others arguments → Contains (names_in arguments) name → ⊥)
    → FitForm form positionals others → FitForm form positionals words
option_fits_form form positionals words others (positional text) name begins is known apart fits = cc
option_fits_form form positionals words others (option first value) name begins is known apart (arguments, fits) =
    let same : name ≡ first = cc in
    let names = names_in arguments in (
      option first value ∷ arguments,
      record {
        spelled = (others, begins, fits.spelled);
        as_many = fits.as_many;
        known =
            All-cons (λ n. Contains form.options n) first names (subst (Contains form.options) same known)
            fits.known;
        once = AllPairs-cons (λ n other. n ≢ other) first names
            (λ k d within is_here.
            apart arguments fits.spelled
            (subst (Contains names) (sym (same ∙ is_here)) (Contains-get_or names k d within))) fits.once;
      },
    )

-- the form knows a name, and the words after the option spell arguments that fit and don't have it
pub record FitsFormBehindOption (form : ArgumentForm) (positionals : ℕ) (others : List ArgumentText) (name : ArgumentText) : Type 0 where
  pub known : Contains form.options name
  pub rest : List Argument
  pub fits : FitsRest form positionals others rest
  pub apart : Contains (names_in rest) name → ⊥

-- words with an option at their front fit only if that is so
pub form_fit_behind_option : (form : ArgumentForm) (positionals : ℕ) (words others : List ArgumentText) (argument : Argument) (name : ArgumentText)
    → BeginWith words argument others → Some name ≡ scanned_name argument
    → FitForm form positionals words → FitsFormBehindOption form positionals others name
form_fit_behind_option form positionals words others (positional text) name begins is fits = cc
form_fit_behind_option form positionals words others (option first value) name begins is (arguments, fits) =
    let behind = argument_tail_follows words others (option first value) arguments begins fits.spelled in
    let known = subst (λ list. All (λ n. Contains form.options n) (names_in list)) behind.are fits.known in
    let once = subst (λ list. AllPairs (λ n other. n ≢ other) (names_in list)) behind.are fits.once in
    let same : first ≡ name = cc in
    record {
      known =
          subst (Contains form.options) same
          (All-head (λ n. Contains form.options n) first (names_in behind.rest) known);
      rest = behind.rest;
      fits = record {
        spelled = behind.spelled;
        as_many = subst (λ list. length (positionals_in list) ≡ positionals) behind.are fits.as_many;
        known = All-tail (λ n. Contains form.options n) first (names_in behind.rest) known;
        once = AllPairs-list_tail (λ n other. n ≢ other) first (names_in behind.rest) once;
      };
      apart = λ stands.
          All-contains (λ other. first ≢ other) (names_in behind.rest) name
          (AllPairs-list_head (λ n other. n ≢ other) first (names_in behind.rest) once) stands same;
    }

-- each required option of a form is present among arguments
abbrev pub HaveAllFormRequires : ArgumentForm → List Argument → Type 0
HaveAllFormRequires form arguments = All (λ name. Contains (names_in arguments) name) form.required

-- words that fit with as many positionals as the form has, and that spell its required options, are well formed
pub form_fit_is_well_formed : (form : ArgumentForm) (positionals : ℕ) (words : List ArgumentText) → positionals ≡ length form.positionals
    → FitForm form positionals words → ((arguments : List Argument) → SpellAll words arguments → HaveAllFormRequires form arguments)
    → (arguments : List Argument) × AreWellFormed form words arguments
form_fit_is_well_formed form positionals words count (arguments, fits) complete = (
  arguments,
  record {
    spelled = fits.spelled;
    of_form = record {
      as_many = fits.as_many ∙ count;
      known = fits.known;
      once = fits.once;
      complete = complete arguments fits.spelled;
    };
  },
)

-- and well-formed words fit
pub well_formed_words_fit_form : (form : ArgumentForm) (positionals : ℕ) (words : List ArgumentText) (arguments : List Argument)
    → positionals ≡ length form.positionals → AreWellFormed form words arguments → FitForm form positionals words
well_formed_words_fit_form form positionals words arguments count formed = (
  arguments,
  record {
    spelled = formed.spelled;
    as_many = formed.of_form.as_many ∙ sym count;
    known = formed.of_form.known;
    once = formed.of_form.once;
  },
)
