use Rattle.std.proofs.Common.{◌≡◌, ◌≤◌, ◌*◌, ◌^◌, take}
use Rattle.site_merge.specs.Taking.{weight_of_marks}
use Rattle.site_merge.proofs.weights.weight_of.Given as goal

abbrev pub invariant-loop-mark : goal.invariant-loop-mark
invariant-loop-mark l = record {
  weighed : l.total ≡ weight_of_marks (take l.mark-index l.marks);
  small : l.total ≤ l.mark-index * 2 ^ 60;
}
