use Rattle.std.proofs.Common.{◌≡◌, ◌≤◌, ◌*◌, ◌^◌, take}
use Rattle.prefix_lattice.specs.{total_weight}
use Rattle.exact_audit.proofs.counted.total_of.Given as goal

-- the weight of the records so far, each below 2^32
abbrev pub invariant-loop-rec : goal.invariant-loop-rec
invariant-loop-rec l = (l.total ≡ total_weight (take l.rec-index l.records)) × (l.total ≤ l.rec-index * 2 ^ 32)
