use Rattle.std.proofs.Common.{◌∙◌, ◌≤◌, length, refl, sym, subst, arith}
use Rattle.std.proofs.lemmas.Option.{IfSome_then}
use Rattle.hhh_report.specs.{million}
use Rattle.hhh_output.specs.{IsWideShare}
use Rattle.shard_state.specs.{HasCoreShape, core_shape}
use Rattle.pass_tokens.specs.{view}
use Rattle.report_session.specs.Saving.{SavesBreakOff, SavesInTurn}
use Rattle.report_session.proofs.RoundLemmas.{all_rounds_were_made, one_round_broke_off, round_saver_stays_or_none}
use Rattle.report_session.proofs.RoundLemmas.{writes_no_round, writes_more_rounds}
use Rattle.report_session.proofs.SaveLemmas.{no_save, save_needs_saver, broken_saves_follow, saves_follow}
use Rattle.report_session.proofs.SeenPositionLemmas.{seen_positions_allow_more_saves}
use Rattle.report_session.proofs.SeenPositionLemmas.{seen_position_report_count}
use Rattle.report_session.proofs.live_rounds.LiveRoundsRounds.go.Goals as goal

pub loop-round-init : goal.loop-round-init
loop-round-init g c = record {
  pass = c.requires.pass;
  shape = c.requires.ready.0;
  same_sink = refl;
  same_disk = refl;
  same_saver = refl;
  same_cut = refl;
  same_share = refl;
  same_rounds = refl;
  same_callers = refl;
  unstopped = c.requires.ready.4;
  fits = IfSome_then c.args.self.now.saver.now c.requires.ready.5 (λ saver can. can.fits);
  written =
      writes_no_round _ _ _ _
      (SavesInTurn g.D.Disk c.args.self.now.saver.now c.args.self.now.saver.now c.args.self.now.disk.now c.args.self.now.disk.now)
      (c.calls_follow_calls.ensures.none _ _ _)
      (no_save g.D.Disk c.args.self.now.saver.now c.args.self.now.disk.now (g.met.D.Disk.only_now c.args.self.now.disk.now)
      (IfSome_then c.args.self.now.saver.now c.requires.ready.5 (λ saver can. can.stands)));
}

pub make_round-requires-clause-some : goal.make_round-requires-clause-some
make_round-requires-clause-some g c =
    subst (λ phi. 1 ≤ phi) (sym c.loop-round.invariant.same_share) c.requires.ready.1

pub make_round-requires-clause-most : goal.make_round-requires-clause-most
make_round-requires-clause-most g c =
    subst (λ phi. phi ≤ million) (sym c.loop-round.invariant.same_share) c.requires.ready.2

pub make_round-requires-clause-wide : goal.make_round-requires-clause-wide
make_round-requires-clause-wide g c =
    subst (λ phi. IsWideShare phi (core_shape c.args.board.now.opening).capacity) (sym c.loop-round.invariant.same_share)
    c.requires.ready.3

pub make_round-requires-clause-can_save : goal.make_round-requires-clause-can_save
make_round-requires-clause-can_save g c =
    let far = c.loop-round.invariant in
    seen_positions_allow_more_saves g.D.Disk c.args.board.now.opening
    (view c.loop-round.pass) c.args.self.now.saver.now c.loop-round.self.saver.now far.written.reports
    c.args.self.now.disk.now c.loop-round.self.disk.now c.loop-round.round 1 c.args.self.now.rounds
    (seen_position_report_count _ _ _ _ _ _ far.written.calls) (omega (arith, c.loop-round-test.true)) far.fits far.written.kept
    (IfSome_then c.args.self.now.saver.now c.requires.ready.5 (λ saver can. can.early))

pub returns-in-Err-clause-does : goal.returns-in-Err-clause-does
returns-in-Err-clause-does g c =
    let far = c.loop-round.invariant in
    let opening = c.requires.pass.seat.opening in (
      c.make_round.ensures.same_sink ∙ far.same_sink,
      c.make_round.ensures.same_disk ∙ far.same_disk,
      c.make_round.ensures.same_saver ∙ far.same_saver,
      c.make_round.ensures.same_cut ∙ far.same_cut,
      subst (λ shards. HasCoreShape (length shards) (core_shape shards) c.make_round.new.self.cut.now) (sym opening)
          c.in-Err.ensures.shape,
      one_round_broke_off _ _ _ _ _ _ _ _ _ _ _
          (SavesInTurn g.D.Disk c.args.self.now.saver.now c.loop-round.self.saver.now
          c.args.self.now.disk.now c.loop-round.self.disk.now)
          (SavesBreakOff g.D.Disk c.loop-round.self.saver.now c.make_round.new.self.saver.now
          c.loop-round.self.disk.now c.make_round.new.self.disk.now)
          (SavesBreakOff g.D.Disk c.args.self.now.saver.now c.make_round.new.self.saver.now
          c.args.self.now.disk.now c.make_round.new.self.disk.now) c.in-Err.status opening far.same_share
          (round_saver_stays_or_none c.args.self.now.saver.now c.loop-round.self.saver.now _ far.written.kept.saver)
          c.loop-round-test.true (λ cuts saved unfinished first second.
          broken_saves_follow c.stores_open_to_one.ensures g.D.Disk g.met.D.Disk.reading_is_image c.args.self.now.saver.now c.loop-round.self.saver.now
          c.make_round.new.self.saver.now cuts saved unfinished c.args.self.now.disk.now c.loop-round.self.disk.now c.make_round.new.self.disk.now
          (IfSome_then c.args.self.now.saver.now c.requires.ready.5 (λ saver can. can.fits.settings))
          first second) far.written c.in-Err.ensures.broken,
      λ none.
          let done = save_needs_saver g.D.Disk _ _ _ _ _ far.written.kept none in
          let round = c.in-Err.ensures.unused done.0 in (round.0, round.1 ∙ done.1),
      c.make_round.ensures.same_share ∙ far.same_share,
      c.make_round.ensures.same_rounds ∙ far.same_rounds,
      c.make_round.ensures.same_callers ∙ far.same_callers,
    )

pub loop-round-preserved : goal.loop-round-preserved
loop-round-preserved g c =
    let far = c.loop-round.invariant in
    let opening = c.args.board.now.opening in record {
      pass = c.make_round.ensures.pass;
      shape = c.make_round.ensures.shape;
      same_sink = c.make_round.ensures.same_sink ∙ far.same_sink;
      same_disk = c.make_round.ensures.same_disk ∙ far.same_disk;
      same_saver = c.make_round.ensures.same_saver ∙ far.same_saver;
      same_cut = c.make_round.ensures.same_cut ∙ far.same_cut;
      same_share = c.make_round.ensures.same_share ∙ far.same_share;
      same_rounds = c.make_round.ensures.same_rounds ∙ far.same_rounds;
      same_callers = c.make_round.ensures.same_callers ∙ far.same_callers;
      unstopped = c.make_round.ensures.same_stop ∙ far.unstopped;
      fits = c.in_default.ensures.fits;
      written =
          writes_more_rounds opening _ _ _ c.loop-round.round 1 _ _ _ _
          (SavesInTurn g.D.Disk c.args.self.now.saver.now c.loop-round.self.saver.now
          c.args.self.now.disk.now c.loop-round.self.disk.now)
          (SavesInTurn g.D.Disk c.loop-round.self.saver.now c.make_round.new.self.saver.now
          c.loop-round.self.disk.now c.make_round.new.self.disk.now)
          (SavesInTurn g.D.Disk c.args.self.now.saver.now c.make_round.new.self.saver.now
          c.args.self.now.disk.now c.make_round.new.self.disk.now) far.same_share
          (round_saver_stays_or_none c.args.self.now.saver.now c.loop-round.self.saver.now _ far.written.kept.saver)
          (λ phi rounds more middle now reports later.
          c.calls_follow_calls.ensures.more opening phi rounds more (view c.args.pass.now) middle now reports later
          c.requires.pass.seat.trails) (λ cuts later first second.
          saves_follow c.stores_open_to_one.ensures g.D.Disk g.met.D.Disk.reading_is_image c.args.self.now.saver.now
          c.loop-round.self.saver.now c.make_round.new.self.saver.now cuts later c.args.self.now.disk.now
          c.loop-round.self.disk.now c.make_round.new.self.disk.now
          (IfSome_then c.args.self.now.saver.now c.requires.ready.5 (λ saver can. can.fits.settings)) first second)
          far.written c.in_default.ensures.whole;
    }

pub returns-clause-does : goal.returns-clause-does
returns-clause-does g c =
    let far = c.loop-round.invariant in
    let opening = c.requires.pass.seat.opening in (
      far.same_sink,
      far.same_disk,
      far.same_saver,
      far.same_cut,
      subst (λ shards. HasCoreShape (length shards) (core_shape shards) c.loop-round.self.cut.now) (sym opening) far.shape,
      all_rounds_were_made _ _ _ _ _ _ _ _
          (SavesInTurn g.D.Disk c.args.self.now.saver.now c.loop-round.self.saver.now
          c.args.self.now.disk.now c.loop-round.self.disk.now)
          (SavesBreakOff g.D.Disk c.args.self.now.saver.now c.loop-round.self.saver.now
          c.args.self.now.disk.now c.loop-round.self.disk.now) c.loop-round.self.stop opening far.unstopped
          (omega (arith, c.loop-round.auto.round-end, c.loop-round-test.false)) far.written,
      save_needs_saver g.D.Disk _ _ _ _ _ far.written.kept,
      far.same_share,
      far.same_rounds,
      far.same_callers,
    )
