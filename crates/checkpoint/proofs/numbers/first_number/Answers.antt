use Rattle.std.proofs.Common.{arith}
use Rattle.checkpoint.proofs.NumberBytesLemmas.{number_bytes_in_front}
use Rattle.checkpoint.proofs.numbers.first_number.Goals as goal

pub returns-clause-spelled : goal.returns-clause-spelled
returns-clause-spelled c =
    number_bytes_in_front c.args.bytes.now c.split_at.result.0.now c.split_at.result.1.now c.read_u64.result
    (λ i. omega (arith, c.type_inv.bytes i)) c.requires c.split_at.ensures.front c.split_at.ensures.back c.read_u64.ensures
