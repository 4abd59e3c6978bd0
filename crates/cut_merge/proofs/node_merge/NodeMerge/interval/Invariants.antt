use Rattle.std.proofs.Common.{◌≡◌, sum_by, take}
use Rattle.cut_merge.specs.Run.{RunValue, run_interval}
use Rattle.cut_merge.proofs.node_merge.NodeMerge.interval.Given as goal

-- the sums over the runs so far
abbrev pub invariant-loop-run : goal.invariant-loop-run
invariant-loop-run l =
    (l.low ≡ sum_by (λ (run : RunValue). (run_interval run l.key).low) (take l.run-index l.self.runs))
    × (l.high ≡ sum_by (λ (run : RunValue). (run_interval run l.key).high) (take l.run-index l.self.runs))
