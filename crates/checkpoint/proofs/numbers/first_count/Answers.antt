use Rattle.std.proofs.Common.{arith}
use Rattle.checkpoint.proofs.NumberBytesLemmas.{number_bytes_of_count}
use Rattle.checkpoint.proofs.numbers.first_count.Goals as goal

pub returns-clause-spelled : goal.returns-clause-spelled
returns-clause-spelled c =
    number_bytes_of_count c.args.bytes.now c.split_at.result.0.now c.split_at.result.1.now c.read_u32.result
    (λ i. omega (arith, c.type_inv.bytes i)) c.requires c.split_at.ensures.front c.split_at.ensures.back c.read_u32.ensures
