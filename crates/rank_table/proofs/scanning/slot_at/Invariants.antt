use Rattle.std.proofs.Common.{◌≢◌, nat_lt, count_by, take}
use Rattle.std.specs.List.{AllByRecursion}
use Rattle.rank_table.specs.Ranks.{slot_rank}
use Rattle.rank_table.proofs.scanning.slot_at.Given as goal

-- other numbers of slots come before those so far
abbrev pub invariant-loop-slot : goal.invariant-loop-slot
invariant-loop-slot l = AllByRecursion (λ slot. count_by (λ other. nat_lt (slot_rank other) (slot_rank slot)) l.slots ≢ l.place) (take l.slot-index l.slots)
