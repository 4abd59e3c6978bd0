use Rattle.std.proofs.Common.{◌≤◌, ◌-◌, sym, ap, ◌∙◌, length, arith, Option, List, ℕ, None}
use Rattle.std.proofs.lemmas.List.{length-drop, take_rest}
use Rattle.command_words.proofs.ArgumentTailLemmas.{argument_begins_tail_range, no_argument_begins_tail_range}
use Rattle.command_words.proofs.LeadingOptionLemmas.{leading_options_left_behind, no_leading_option_left}
use Rattle.command_words.proofs.LeadingOptionLemmas.{no_leading_option_before_positional, leading_option_has_name}
use Rattle.command_words.specs.Scanning.{text_at}
use Rattle.command_words.specs.Arguments.{option}
use Rattle.command_words.proofs.names.leading_options.Goals as goal

pub returns-in_default-option-clause-all : goal.returns-in_default-option-clause-all
returns-in_default-option-clause-all c =
    let front = argument_begins_tail_range c.args.words.now c.fronts.from c.in-Some.front.words _ c.in-Some.ensures.some in
    λ before names arguments begins.
    no_leading_option_left _ before names c.fronts.from
    (λ name value others other. no_leading_option_before_positional _ _ others front.0 name value front.1
    (sym front.2 ∙ ap text_at c.in_default-option.is) other)
    (c.fronts.invariant.1 before names arguments begins)

pub fronts-preserved : goal.fronts-preserved
fronts-preserved c =
    let front = argument_begins_tail_range c.args.words.now c.fronts.from c.in-Some.front.words _ c.in-Some.ensures.some in
    let within : c.in-Some.front.words ≤ length c.args.words.now - c.fronts.from =
    simp (take_rest, length-drop) at c.in-Some.ensures.fits.1 in (
      omega arith,
      λ before names arguments begins.
          leading_options_left_behind c.args.words.now c.fronts.from c.in-Some.front.words before names front.0 (omega arith) front.1
          (λ is. leading_option_has_name c.in-Some-option._name.now (sym (ap text_at c.in-Some-option.is) ∙ front.2 ∙ is))
          (c.fronts.invariant.1 before names arguments begins),
    )

pub returns-clause-all : goal.returns-clause-all
returns-clause-all c =
    let never = no_argument_begins_tail_range c.args.words.now c.fronts.from c.in_default.ensures.none in
    λ before names arguments begins.
    no_leading_option_left _ before names c.fronts.from (λ name value others other. never (option name value) others other)
    (c.fronts.invariant.1 before names arguments begins)
