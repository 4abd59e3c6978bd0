use Rattle.std.proofs.Common.{arith}
use Rattle.checkpoint.proofs.PartLengthLemmas.{part_length_of_table}
use Rattle.checkpoint.proofs.lengths.table_length.Goals as goal

pub returns-clause-is : goal.returns-clause-is
returns-clause-is c = omega (arith, part_length_of_table c.args.table.now.entries, c.len.ensures.length)
