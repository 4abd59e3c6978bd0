use Rattle.std.proofs.Common.{◌≡◌, length, None}
use Rattle.std.specs.Prelude.{IfSome, is_some}
use Rattle.shard_state.specs.{HasCoreShape, core_shape}
use Rattle.pass_tokens.specs.{IsPassOf, view}
use Rattle.report_session.specs.LiveRounds.{WritesRounds, round_side}
use Rattle.report_session.specs.Saving.{SavesFitBoard, SavesInTurn}
use Rattle.report_session.proofs.live_rounds.LiveRoundsRounds.go.Given as goal

-- the rounds so far were written whole, and their cuts saved
abbrev pub invariant-loop-round : goal.invariant-loop-round
invariant-loop-round g l = record {
  pass : IsPassOf l.board l.pass;
  shape : HasCoreShape (length l.board.opening) (core_shape l.board.opening) l.self.cut.now;
  same_sink : l.self.sink.ghost_name ≡ l.fn.self.sink.ghost_name;
  same_disk : l.self.disk.ghost_name ≡ l.fn.self.disk.ghost_name;
  same_saver : l.self.saver.ghost_name ≡ l.fn.self.saver.ghost_name;
  same_cut : l.self.cut.ghost_name ≡ l.fn.self.cut.ghost_name;
  same_share : l.self.phi ≡ l.fn.self.phi;
  same_rounds : l.self.rounds ≡ l.fn.self.rounds;
  same_callers : l.self.callers ≡ l.fn.self.callers;
  unstopped : l.self.stop ≡ None;
  fits : IfSome l.self.saver.now (SavesFitBoard l.board.opening (view l.pass));
  written : WritesRounds l.board.opening l.fn.self.phi (is_some l.fn.self.saver.now) l.round
      (round_side g.K.Sink g.D.Disk (view l.fn.pass) l.fn.self.sink.now l.fn.self.disk.now)
      (round_side g.K.Sink g.D.Disk (view l.pass) l.self.sink.now l.self.disk.now)
      (SavesInTurn g.D.Disk l.fn.self.saver.now l.self.saver.now l.fn.self.disk.now l.self.disk.now);
}
