use Rattle.std.proofs.Common.{arith}
use Rattle.checkpoint.proofs.SavedTableLemmas.{saved_table_bytes_are_counted}
use Rattle.checkpoint.proofs.decoding.read_entries.Goals as goal

pub returns-then-rest-lt24-clause-damaged : goal.returns-then-rest-lt24-clause-damaged
returns-then-rest-lt24-clause-damaged c = λ is entries rest begins.
    absurd (omega (
      arith,
      saved_table_bytes_are_counted c.args.count c.args.bytes.now entries rest begins,
      saved_table_bytes_are_counted c.loop-place._place c.args.bytes.now c.loop-place.entries.items c.loop-place.rest.now c.loop-place.invariant.1,
    ))
