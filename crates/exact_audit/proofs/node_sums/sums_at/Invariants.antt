use Rattle.std.proofs.Common.{take}
use Rattle.exact_audit.specs.NodeSums.{AreKeySums, HasSumKeys}
use Rattle.exact_audit.proofs.node_sums.sums_at.Given as goal

-- the sums of the records so far
abbrev pub invariant-loop-one : goal.invariant-loop-one
invariant-loop-one l = AreKeySums l.node (take l.one-index l.counted) l.sums × HasSumKeys l.node l.sums
