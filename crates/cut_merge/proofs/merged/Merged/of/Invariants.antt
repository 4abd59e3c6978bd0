use Rattle.cut_merge.proofs.CutMergeLemmas.{CutMergesNodes}
use Rattle.cut_merge.proofs.merged.Merged.of.Given as goal

abbrev pub invariant-loop-place : goal.invariant-loop-place
invariant-loop-place l = CutMergesNodes l.cut l.nodes.items l.place
