use Rattle.std.proofs.Common.{ℕ, ◌<◌, ◌≤◌, nat_lt, get_or}
use Rattle.std.specs.List.{IsFirstBest}
use Rattle.rank_table.specs.declared.slot.Slot.{Slot}
use Rattle.rank_table.specs.Ranks.{slot_rank}
use Rattle.rank_table.proofs.scanning.least_of.Given as goal

-- the first so far, of the least count
abbrev pub invariant-loop-place : goal.invariant-loop-place
invariant-loop-place l = record {
  first : IsFirstBest (λ slot other. nat_lt (slot_rank slot) (slot_rank other)) l.slots l.place l.least;
  count : (other : ℕ) (d : Slot) → other < l.place → (get_or l.slots l.least d).entry.count ≤ (get_or l.slots other d).entry.count;
}
