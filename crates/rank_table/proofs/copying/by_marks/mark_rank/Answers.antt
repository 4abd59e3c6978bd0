use Rattle.std.proofs.Common.{arith}
use Rattle.rank_table.specs.Marks.{rank_of_mark}
use Rattle.rank_table.proofs.copying.by_marks.mark_rank.Goals as goal

pub returns : goal.returns
unfolding rank_of_mark
returns c = omega (arith, c.from.ensures, c.from-2.ensures)
