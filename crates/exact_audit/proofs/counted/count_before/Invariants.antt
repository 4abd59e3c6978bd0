use Rattle.std.proofs.Common.{List, take}
use Rattle.prefix_lattice.specs.{PrefixValue}
use Rattle.hhh_report.specs.{records_before}
use Rattle.exact_audit.specs.LineCodes.{AreLineCodes}
use Rattle.exact_audit.specs.NodeSums.{AreCountedIn}
use Rattle.exact_audit.proofs.counted.count_before.Given as goal

-- the records of the shards so far are counted
abbrev pub invariant-loop-shard : goal.invariant-loop-shard
invariant-loop-shard l = (prefixes : List PrefixValue) → AreLineCodes l.grain prefixes l.lines.codes.keys
    → AreCountedIn l.grain prefixes (records_before (take l.shard l.dealt) (take l.shard l.positions)) l.counted.items
