use Rattle.std.proofs.Common.{arith}
use Rattle.rank_table.proofs.MarkLemmas.{marks_written_over}
use Rattle.rank_table.proofs.copying.by_marks.write_entries.Goals as goal

pub loop-place-preserved : goal.loop-place-preserved
loop-place-preserved c = marks_written_over c.args.slots.now c.args.marks.now c.loop-place.marks c.loop-place.place (omega arith) c.loop-place.invariant
