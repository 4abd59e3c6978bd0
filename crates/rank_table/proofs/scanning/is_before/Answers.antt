use Rattle.std.proofs.Common.{arith}
use Rattle.rank_table.proofs.RankedSlotLemmas.{ranked_slots_by_time, ranked_slots_by_count}
use Rattle.rank_table.proofs.scanning.is_before.Goals as goal

pub returns-then-first-second-clause-rank : goal.returns-then-first-second-clause-rank
returns-then-first-second-clause-rank c = ranked_slots_by_time c.args.first.now c.args.second.now c.if-first-second.true

pub returns-clause-rank : goal.returns-clause-rank
returns-clause-rank c = ranked_slots_by_count c.args.first.now c.args.second.now c.if-first-second.false (omega arith) (omega arith)
