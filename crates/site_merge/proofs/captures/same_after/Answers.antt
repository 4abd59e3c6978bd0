use Rattle.std.proofs.Common.{◌≡◌, true, false, sym, ◌∙◌, arith}
use Rattle.std.proofs.lemmas.Option.{slice_get-get_or, slice_get_within}
use Rattle.site_merge.proofs.MarkLemmas.{mark_alike_is_later}
use Rattle.site_merge.proofs.captures.same_after.Goals as goal

pub loop-second-preserved : goal.loop-second-preserved
loop-second-preserved c =
    let marks = c.args.marks.now in
    mark_alike_is_later marks c.args.first c.loop-second.second _ _
    (slice_get-get_or marks c.args.first _ c.requires.within)
    (slice_get-get_or marks c.loop-second.second _ (omega (arith, c.loop-second-test.true)))
    (λ alike.
    let both : true ≡ false = sym (c.are_alike.ensures.1 alike) ∙ c.if-are_alike.false in
    absurd (cc both))
    c.loop-second.invariant

pub returns-clause-apart : goal.returns-clause-apart
returns-clause-apart c = λ other pair.
    let lt = slice_get_within c.args.marks.now other pair.other pair.other_is in
    absurd (omega (arith, lt, c.loop-second.invariant other pair, c.loop-second-test.false))
