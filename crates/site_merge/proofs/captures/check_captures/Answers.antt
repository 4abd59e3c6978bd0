use Rattle.std.proofs.Common.{arith}
use Rattle.std.proofs.lemmas.Option.{slice_get_within}
use Rattle.site_merge.proofs.MarkLemmas.{mark_alike_with_later}
use Rattle.site_merge.proofs.captures.check_captures.Goals as goal

pub loop-first-preserved : goal.loop-first-preserved
loop-first-preserved c = mark_alike_with_later c.args.marks.now c.loop-first.first c.in_default.ensures.apart c.loop-first.invariant

pub returns-clause-apart : goal.returns-clause-apart
returns-clause-apart c = λ first second pair.
    let lt = slice_get_within c.args.marks.now first pair.one pair.one_is in
    absurd (omega (arith, lt, c.loop-first.invariant first second pair, c.loop-first-test.false))
