use Rattle.hhh_output.proofs.NodeLineLemmas.{HasJudgedNodeLines}
use Rattle.hhh_output.proofs.selecting.select_at.Given as goal

abbrev pub invariant-loop-key : goal.invariant-loop-key
invariant-loop-key l =
    HasJudgedNodeLines l.merged l.threshold l.reported.lines l.node l.key-items l.initial.found.items l.found.items
    l.key-index
