use Rattle.std.proofs.Common.{◌≤◌, ◌-◌, refl, sym, ◌∙◌, length, arith}
use Rattle.std.proofs.lemmas.Bool.{false≢true}
use Rattle.std.proofs.lemmas.List.{length-drop, take_rest}
use Rattle.command_words.proofs.ArgumentTailLemmas.{argument_begins_tail_range, no_argument_begins_tail_range}
use Rattle.command_words.proofs.ArgumentTailLemmas.{next_argument_tail_keeps_name, name_stands_before_argument_tail}
use Rattle.command_words.proofs.ArgumentTailLemmas.{empty_argument_tail_lacks_name}
use Rattle.command_words.proofs.scanning.stands.Goals as goal

pub returns-then-names : goal.returns-then-names
returns-then-names c =
    let front = argument_begins_tail_range c.args.words.now c.fronts.from c.in-Some.front.words _ c.in-Some.ensures.some in
    λ arguments spelled. (
      λ _.
          name_stands_before_argument_tail _ _ front.0 arguments _ front.1 (sym front.2 ∙ c.if-names.ensures.0 refl)
          (c.fronts.invariant.1 arguments spelled),
      λ _. refl,
    )

pub fronts-preserved : goal.fronts-preserved
fronts-preserved c =
    let front = argument_begins_tail_range c.args.words.now c.fronts.from c.in-Some.front.words _ c.in-Some.ensures.some in
    let within : c.in-Some.front.words ≤ length c.args.words.now - c.fronts.from =
    simp (take_rest, length-drop) at c.in-Some.ensures.fits.1 in (
      omega arith,
      λ arguments spelled.
          next_argument_tail_keeps_name _ _ front.0 arguments _ front.1 (λ is. false≢true (c.if-names.ensures.1 (front.2 ∙ is)))
          (c.fronts.invariant.1 arguments spelled),
    )

pub returns : goal.returns
returns c =
    let never = no_argument_begins_tail_range c.args.words.now c.fronts.from c.in_default.ensures.none in
    λ arguments spelled. (
      λ yes. absurd (false≢true yes),
      λ h. absurd (empty_argument_tail_lacks_name _ arguments _ never (c.fronts.invariant.1 arguments spelled) h),
    )
