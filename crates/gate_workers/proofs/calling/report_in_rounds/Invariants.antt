use Rattle.std.proofs.Common.{length, All}
use Rattle.shard_state.specs.{BasesRepresent, HasCoreShape, core_shape, core_lists}
use Rattle.hhh_report.specs.{IsSound}
use Rattle.pass_tokens.specs.{IsPassOf, view}
use Rattle.gate_workers.specs.Calling.{Calls}
use Rattle.gate_workers.proofs.calling.report_in_rounds.Given as goal

-- the reports of the rounds so far
abbrev pub invariant-loop-round : goal.invariant-loop-round
invariant-loop-round g l =
    IsPassOf l.board l.pass × HasCoreShape (length l.board.opening) (core_shape l.board.opening) l.cut
    × (BasesRepresent l.board.opening
    → All (λ reported. IsSound (core_shape l.board.opening).grain reported.report (core_lists l.board.opening) (core_shape l.board.opening).capacity l.phi)
    l.reports)
    × Calls l.board.opening l.phi l.round (view l.initial.pass) (view l.pass) l.reports
