use Rattle.std.proofs.Common.{arith}
use Rattle.rank_table.proofs.MarkLemmas.{marks_are}
use Rattle.rank_table.proofs.copying.by_marks.write_marks.Goals as goal

pub returns : goal.returns
returns c = marks_are c.loop-place.into c.args.slots.now (omega arith) (λ place d within. c.loop-place.invariant place d (omega arith))
