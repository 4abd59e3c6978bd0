use Rattle.std.proofs.Common.{◌≡◌, ◌*◌, ◌^◌, ◌≤◌, length, take}
use Rattle.std.specs.List.{sum_by}
use Rattle.prefix_lattice.specs.{total_weight}
use Rattle.hhh_report.specs.{records_before}
use Rattle.exact_audit.proofs.counted.total_before.Given as goal

-- the weight of the records of the shards so far, each below 2^32
abbrev pub invariant-loop-shard : goal.invariant-loop-shard
invariant-loop-shard l =
    (l.total ≡ total_weight (records_before (take l.shard l.dealt) (take l.shard l.positions)))
    × (l.total ≤ sum_by (λ list. length list) (take l.shard l.dealt) * 2 ^ 32)
