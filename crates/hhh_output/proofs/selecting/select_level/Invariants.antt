use Rattle.hhh_output.proofs.LevelSearchLemmas.{IsLevelSearch}
use Rattle.hhh_output.proofs.selecting.select_level.Given as goal

abbrev pub invariant-loop-place : goal.invariant-loop-place
invariant-loop-place l = IsLevelSearch l.merged l.threshold l.reported.lines l.level l.found.items l.place
