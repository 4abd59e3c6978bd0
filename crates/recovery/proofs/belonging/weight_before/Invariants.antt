use Rattle.std.proofs.Common.{◌≡◌, ◌≤◌, ◌*◌, ◌^◌, take}
use Rattle.prefix_lattice.specs.{total_weight}
use Rattle.recovery.proofs.belonging.weight_before.Given as goal

abbrev pub invariant-loop-rec : goal.invariant-loop-rec
invariant-loop-rec l = record {
  weighed : l.weight ≡ total_weight (take l.rec-index l.front);
  small : l.weight ≤ l.rec-index * 2 ^ 32;
}
