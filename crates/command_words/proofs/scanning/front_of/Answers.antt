use Rattle.std.proofs.Common.{refl, sym, ap, ◌∙◌, arith, subst, Some, None, length}
use Rattle.std.proofs.lemmas.Str.Pattern.{split_parts}
use Rattle.command_words.specs.Arguments.{positional, option, equals_sign, IsValue, long_argument}
use Rattle.command_words.specs.Arguments.{argument_texts}
use Rattle.command_words.proofs.WordFrontLemmas.{word_front_given_if_true, no_word_front_unless_true}
use Rattle.command_words.proofs.WordFrontLemmas.{no_word_front_if_none, nothing_behind_word_front, name_at_word_front}
use Rattle.command_words.proofs.WordFrontLemmas.{stripped_word_front_is_long}
use Rattle.command_words.proofs.WordFrontLemmas.{positional_at_word_front, joined_option_at_word_front}
use Rattle.command_words.proofs.WordFrontLemmas.{apart_option_at_word_front}
use Rattle.command_words.proofs.WordFrontLemmas.{no_positional_at_word_front, no_joined_word_front, no_apart_word_front}
use Rattle.command_words.proofs.OneReadingLemmas.{one_reading_of_head}
use Rattle.command_words.proofs.scanning.front_of.Goals as goal

pub returns-in_default-clause-fits : goal.returns-in_default-clause-fits
returns-in_default-clause-fits c =
    word_front_given_if_true _ _ _ _ c.then_some.ensures
    (λ test. (omega arith, omega (arith, ap length c.in_ok-word.ensures.cases.0)))

pub returns-in_default-clause-some : goal.returns-in_default-clause-some
returns-in_default-clause-some c =
    word_front_given_if_true _ _ _ _ c.then_some.ensures
    (λ test. (
      positional c.in_ok-word.word.now.now,
      positional_at_word_front _ _ _ c.in_ok-word.ensures.cases.0 (c.is_value.ensures.0 test),
      refl,
    ))

pub returns-in_default-clause-none : goal.returns-in_default-clause-none
returns-in_default-clause-none c =
    no_word_front_unless_true _ _ _ _ c.then_some.ensures
    (λ fails.
    no_positional_at_word_front _ _ _ c.in_ok-word.ensures.cases.0 c.in_default.ensures.cases
    (λ is_value. fails (c.is_value.ensures.1 is_value)))

pub returns-in-Some-split_once-clause-fits : goal.returns-in-Some-split_once-clause-fits
returns-in-Some-split_once-clause-fits c =
    word_front_given_if_true _ _ _ _ c.then_some-in-Some-split_once.ensures
    (λ test. (omega arith, omega (arith, ap length c.in_ok-word.ensures.cases.0)))

pub returns-in-Some-split_once-clause-some : goal.returns-in-Some-split_once-clause-some
returns-in-Some-split_once-clause-some c =
    let name = c.in-Some-split_once.name.now in let value = c.in-Some-split_once.value.now in
    let stripped = c.in-Some.ensures.cases in
    let parts =
    split_parts equals_sign c.in-Some.text.now (Some (c.in-Some-split_once.name, c.in-Some-split_once.value))
    c.in-Some-split_once.ensures.cases (omega arith) in
    word_front_given_if_true _ _ _ _ c.then_some-in-Some-split_once.ensures
    (λ test. (
      option name value,
      joined_option_at_word_front _ _ _ name value c.in_ok-word.ensures.cases.0
          (stripped_word_front_is_long _ _ _ stripped.1.1 stripped.2 ∙ ap long_argument parts.0) (name_at_word_front name parts.1)
          (c.is_value-in-Some-split_once.ensures.0 test),
      refl,
    ))

pub returns-in-Some-split_once-clause-none : goal.returns-in-Some-split_once-clause-none
returns-in-Some-split_once-clause-none c =
    let name = c.in-Some-split_once.name.now in let value = c.in-Some-split_once.value.now in
    let stripped = c.in-Some.ensures.cases in
    let parts =
    split_parts equals_sign c.in-Some.text.now (Some (c.in-Some-split_once.name, c.in-Some-split_once.value))
    c.in-Some-split_once.ensures.cases (omega arith) in
    no_word_front_unless_true _ _ _ _ c.then_some-in-Some-split_once.ensures
    (λ fails. no_joined_word_front _ _ _ name value c.in_ok-word.ensures.cases.0
    (stripped_word_front_is_long _ _ _ stripped.1.1 stripped.2 ∙ ap long_argument parts.0) (name_at_word_front name parts.1)
    (λ is_value. fails (c.is_value-in-Some-split_once.ensures.1 is_value)))

pub returns-in_err-value-clause-none : goal.returns-in_err-value-clause-none
returns-in_err-value-clause-none c =
    let stripped = c.in-Some.ensures.cases in
    let lacks = split_parts equals_sign c.in-Some.text.now None c.in_default-split_once.ensures.cases (omega arith) in
    no_word_front_if_none _ _ c.from_residual-in_err-value.ensures
    (no_apart_word_front _ _ _ c.in-Some.text.now c.in_ok-word.ensures.cases.0 (stripped_word_front_is_long _ _ _ stripped.1.1 stripped.2)
    (name_at_word_front _ lacks)
    (λ value rest are is_value. nothing_behind_word_front _ c.in_err-value.ensures.cases value rest are))

pub returns-clause-fits : goal.returns-clause-fits
returns-clause-fits c =
    word_front_given_if_true _ _ _ _ c.then_some-2.ensures
    (λ test. (
      omega arith,
      omega (arith, ap length c.in_ok-word.ensures.cases.0, ap length c.in_ok-value.ensures.cases.0),
    ))

pub returns-clause-some : goal.returns-clause-some
returns-clause-some c =
    let stripped = c.in-Some.ensures.cases in
    let lacks = split_parts equals_sign c.in-Some.text.now None c.in_default-split_once.ensures.cases (omega arith) in
    word_front_given_if_true _ _ _ _ c.then_some-2.ensures
    (λ test. (
      option c.in-Some.text.now c.in_ok-value.value.now.now,
      apart_option_at_word_front _ _ _ _ _ c.in-Some.text.now c.in_ok-word.ensures.cases.0 c.in_ok-value.ensures.cases.0
          (stripped_word_front_is_long _ _ _ stripped.1.1 stripped.2) (name_at_word_front _ lacks) (c.is_value-2.ensures.0 test),
      refl,
    ))

pub returns-clause-none : goal.returns-clause-none
returns-clause-none c =
    let stripped = c.in-Some.ensures.cases in
    let lacks = split_parts equals_sign c.in-Some.text.now None c.in_default-split_once.ensures.cases (omega arith) in
    no_word_front_unless_true _ _ _ _ c.then_some-2.ensures
    (λ fails. no_apart_word_front _ _ _ c.in-Some.text.now c.in_ok-word.ensures.cases.0
    (stripped_word_front_is_long _ _ _ stripped.1.1 stripped.2) (name_at_word_front _ lacks)
    (λ value rest are is_value. fails
    (c.is_value-2.ensures.1
    (subst IsValue (sym (one_reading_of_head _ _ _ _ (sym (ap argument_texts c.in_ok-value.ensures.cases.0) ∙ are))) is_value))))
