use Rattle.std.proofs.Common.{◌≡◌, ◌^◌, ◌<◌, take}
use Rattle.space_saving.specs.Summary.{table_total}
use Rattle.space_saving.proofs.facts.total_of.Given as goal

-- the sum so far, which is small
abbrev pub invariant-loop-entry : goal.invariant-loop-entry
invariant-loop-entry l = record {
  so_far : l.total ≡ table_total (take l.entry-index l.entries);
  bounded : l.total < 2 ^ 56;
}
