use Rattle.std.proofs.Common.{◌∙◌, ◌++◌, [], ◌∷◌, inl, inr, ap, ap₂, subst, refl}
use Rattle.std.proofs.lemmas.Option.{IfSome_then}
use Rattle.std.specs.Prelude.{is_some}
use Rattle.std.specs.Io.KnownBytes.{Appends}
use Rattle.std.proofs.KnownBytes.{Appends-trans}
use Rattle.outside_io.specs.{AppendsPart}
use Rattle.report_text.specs.{report_text}
use Rattle.report_session.specs.Saving.{SavesBreakOff, SavesInPart, SavesInTurn}
use Rattle.report_session.specs.Session.{save_line}
use Rattle.report_session.proofs.RoundLemmas.{round_broken_by_memory, round_makes_report, round_report_has_positions}
use Rattle.report_session.proofs.RoundLemmas.{round_broken_at_saving, round_broken_by_sink, writes_one_round}
use Rattle.report_session.proofs.SaveLemmas.{no_saver_no_save, no_save_broke_off, save_of_reported_cut}
use Rattle.report_session.proofs.SaveLemmas.{whole_saves_broke_off}
use Rattle.report_session.proofs.SeenPositionLemmas.{seen_positions_can_be_saved, seen_positions_fit_next_saver}
use Rattle.report_session.proofs.live_rounds.LiveRounds.make_round.Goals as goal

pub print-requires-clause-positions : goal.print-requires-clause-positions
print-requires-clause-positions g c =
    round_report_has_positions c.args.board.now.opening c.args.self.now.phi c.in_ok-report.report c.shards-shards.ensures.kept
    (round_makes_report _ _ _ _ c.in_ok-report.report c.in_ok-report.ensures.calls)

pub print-requires-clause-threshold : goal.print-requires-clause-threshold
print-requires-clause-threshold g c =
    (round_makes_report _ _ _ _ c.in_ok-report.report c.in_ok-report.ensures.calls).is.threshold.heavy.some

pub saved_line-requires : goal.saved_line-requires
saved_line-requires g c =
    round_report_has_positions c.args.board.now.opening c.args.self.now.phi c.in_ok-report.report c.shards-shards.ensures.kept
    (round_makes_report _ _ _ _ c.in_ok-report.report c.in_ok-report.ensures.calls)

pub save_cut-requires : goal.save_cut-requires
save_cut-requires g c =
    seen_positions_can_be_saved _ _ c.args.board.now.opening c.args.self.now.phi _ _ c.in_ok-report.report c.args.self.now.saver.now _
    c.in_ok-report.ensures.cut c.requires.pass.seat.trails c.in_ok-report.ensures.calls c.requires.can_save

pub returns-in-Err-clause-broken : goal.returns-in-Err-clause-broken
returns-in-Err-clause-broken g c =
    let report = c.in_ok-report.report in
    let text = c.deref.ensures.value ∙ c.in_ok-print.ensures.ok ∙ ap (λ bytes. bytes ++ report_text report) c.new-text.ensures.items in
    round_broken_by_sink _ _ (is_some c.args.self.now.saver.now) _ _
    (SavesBreakOff g.D.Disk c.args.self.now.saver.now c.args.self.now.saver.now
    c.args.self.now.disk.now c.args.self.now.disk.now) _ c.in-Err.status c.in-Err.ensures.fault refl refl (inl (record {
      report = report;
      reports = record { calls = c.in_ok-report.ensures.calls; sound = c.in_ok-report.ensures.sound };
      written = subst (AppendsPart _ _) text c.in-Err.ensures.beginning;
      kept = no_save_broke_off g.D.Disk c.args.self.now.saver.now
          c.args.self.now.saver.now c.args.self.now.disk.now c.args.self.now.disk.now g.met.D.Disk.only_now
          (IfSome_then c.args.self.now.saver.now c.requires.can_save (λ saver can. can.stands)) refl refl;
    }))

pub returns-in-Err-save_cut-clause-broken : goal.returns-in-Err-save_cut-clause-broken
returns-in-Err-save_cut-clause-broken g c =
    let report = c.in_ok-report.report in
    let text = c.deref.ensures.value ∙ c.in_ok-print.ensures.ok ∙ ap (λ bytes. bytes ++ report_text report) c.new-text.ensures.items in
    let written = subst (Appends _ _) text c.in_default.ensures.whole in
    round_broken_at_saving _ _ (is_some c.args.self.now.saver.now) _ _
    (SavesBreakOff g.D.Disk c.args.self.now.saver.now c.save_cut.new.saver
    c.args.self.now.disk.now c.save_cut.new.disk) c.in-Err-save_cut.status c.in-Err-save_cut.ensures.used
    c.in-Err-save_cut.ensures.fault c.in_default.ensures.faults (λ is. record {
      report = report;
      reports = record { calls = c.in_ok-report.ensures.calls; sound = c.in_ok-report.ensures.sound };
      written = written;
      kept = record {
        saver = c.in-Err-save_cut.ensures.saver_goes is;
        saves = subst (λ cut. SavesInPart g.D.Disk
            c.args.self.now.saver.now c.args.self.now.disk.now c.save_cut.new.disk [] (cut ∷ [])) c.in_ok-report.ensures.cut
            c.in-Err-save_cut.ensures.in_part;
      };
    }) (λ is. record {
      report = report;
      reports = record { calls = c.in_ok-report.ensures.calls; sound = c.in_ok-report.ensures.sound };
      written = written;
      kept = no_save_broke_off g.D.Disk c.args.self.now.saver.now
          c.save_cut.new.saver c.args.self.now.disk.now c.save_cut.new.disk g.met.D.Disk.only_now
          (IfSome_then c.args.self.now.saver.now c.requires.can_save (λ saver can. can.stands))
          (c.in-Err-save_cut.ensures.saver_stays is) (c.in-Err-save_cut.ensures.ran_out is);
    })

pub returns-clause-broken : goal.returns-clause-broken
returns-clause-broken g c =
    let report = c.in_ok-report.report in
    let text = c.deref.ensures.value ∙ c.in_ok-print.ensures.ok ∙ ap (λ bytes. bytes ++ report_text report) c.new-text.ensures.items in
    let line = c.deref-2.ensures.value ∙ c.in_ok-line.ensures ∙ ap (λ store. save_line store report.positions) c.is_some.ensures in
    round_broken_by_sink _ _ (is_some c.args.self.now.saver.now) _ _
    (SavesBreakOff g.D.Disk c.args.self.now.saver.now c.save_cut.new.saver
    c.args.self.now.disk.now c.save_cut.new.disk) _ c.in-Err-write.status c.in-Err-write.ensures.fault
    c.in_default.ensures.faults c.in_default-save_cut.ensures.no_fault (inr (record {
      report = report;
      reports = record { calls = c.in_ok-report.ensures.calls; sound = c.in_ok-report.ensures.sound };
      between = _;
      whole = subst (Appends _ _) text c.in_default.ensures.whole;
      written = subst (AppendsPart _ _) line c.in-Err-write.ensures.beginning;
      kept = whole_saves_broke_off g.D.Disk c.args.self.now.saver.now
          c.save_cut.new.saver c.args.self.now.disk.now c.save_cut.new.disk _
          (save_of_reported_cut (is_some c.args.self.now.saver.now) _ report _ (SavesInTurn g.D.Disk c.args.self.now.saver.now c.save_cut.new.saver
          c.args.self.now.disk.now c.save_cut.new.disk)
          c.in_ok-report.ensures.cut (no_saver_no_save g.D.Disk c.args.self.now.saver.now _ _ _ _)
          c.in_default-save_cut.ensures.saved);
    }))

pub returns-in-Ok-clause-whole : goal.returns-in-Ok-clause-whole
returns-in-Ok-clause-whole g c =
    let report = c.in_ok-report.report in
    let text = c.deref.ensures.value ∙ c.in_ok-print.ensures.ok ∙ ap (λ bytes. bytes ++ report_text report) c.new-text.ensures.items in
    let line = c.deref-2.ensures.value ∙ c.in_ok-line.ensures ∙ ap (λ store. save_line store report.positions) c.is_some.ensures in
    writes_one_round _ _ (is_some c.args.self.now.saver.now) _ _
    (SavesInTurn g.D.Disk c.args.self.now.saver.now c.save_cut.new.saver c.args.self.now.disk.now c.save_cut.new.disk) report
    (record { calls = c.in_ok-report.ensures.calls; sound = c.in_ok-report.ensures.sound })
    (Appends-trans _ _ _ (report_text report) (save_line (is_some c.args.self.now.saver.now) report.positions)
    (subst (Appends _ _) text c.in_default.ensures.whole) (subst (Appends _ _) line c.in-Ok.ensures.whole))
    (save_of_reported_cut (is_some c.args.self.now.saver.now) _ report _
    (SavesInTurn g.D.Disk c.args.self.now.saver.now c.save_cut.new.saver c.args.self.now.disk.now c.save_cut.new.disk)
    c.in_ok-report.ensures.cut (no_saver_no_save g.D.Disk c.args.self.now.saver.now _ _ _ _) c.in_default-save_cut.ensures.saved)
    (ap₂ (λ s d. record { sink = s; disk = d }) (c.in-Ok.ensures.faults ∙ c.in_default.ensures.faults)
    c.in_default-save_cut.ensures.no_fault)

pub returns-in-Ok-clause-fits : goal.returns-in-Ok-clause-fits
returns-in-Ok-clause-fits g c =
    seen_positions_fit_next_saver _ _ c.args.board.now.opening c.args.self.now.phi _ _ c.in_ok-report.report c.args.self.now.saver.now _ _
    c.in_ok-report.ensures.cut c.requires.pass.seat.trails c.in_ok-report.ensures.calls c.requires.can_save
    c.in_default-save_cut.ensures.saved.saver

pub returns-in_err-report-clause-broken : goal.returns-in_err-report-clause-broken
returns-in_err-report-clause-broken g c =
    round_broken_by_memory c.args.board.now.opening c.args.self.now.phi (is_some c.args.self.now.saver.now)
    c.from_residual.result _ _
    (SavesBreakOff g.D.Disk c.args.self.now.saver.now c.args.self.now.saver.now
    c.args.self.now.disk.now c.args.self.now.disk.now) c.from_residual.ensures.1 c.report_once.ensures.reads refl refl
    (no_save_broke_off g.D.Disk c.args.self.now.saver.now c.args.self.now.saver.now
    c.args.self.now.disk.now c.args.self.now.disk.now g.met.D.Disk.only_now
    (IfSome_then c.args.self.now.saver.now c.requires.can_save (λ saver can. can.stands)) refl refl)

pub returns-in_err-print-clause-broken : goal.returns-in_err-print-clause-broken
returns-in_err-print-clause-broken g c =
    round_broken_by_memory c.args.board.now.opening c.args.self.now.phi (is_some c.args.self.now.saver.now)
    c.from_residual-in_err-print.result _ _
    (SavesBreakOff g.D.Disk c.args.self.now.saver.now c.args.self.now.saver.now
    c.args.self.now.disk.now c.args.self.now.disk.now) c.from_residual-in_err-print.ensures.1 c.report_once.ensures.reads refl refl
    (no_save_broke_off g.D.Disk c.args.self.now.saver.now c.args.self.now.saver.now
    c.args.self.now.disk.now c.args.self.now.disk.now g.met.D.Disk.only_now
    (IfSome_then c.args.self.now.saver.now c.requires.can_save (λ saver can. can.stands)) refl refl)

pub returns-in_err-line-clause-broken : goal.returns-in_err-line-clause-broken
returns-in_err-line-clause-broken g c =
    round_broken_by_memory c.args.board.now.opening c.args.self.now.phi (is_some c.args.self.now.saver.now)
    c.from_residual-in_err-line.result _ _
    (SavesBreakOff g.D.Disk c.args.self.now.saver.now c.args.self.now.saver.now
    c.args.self.now.disk.now c.args.self.now.disk.now) c.from_residual-in_err-line.ensures.1 c.report_once.ensures.reads refl refl
    (no_save_broke_off g.D.Disk c.args.self.now.saver.now c.args.self.now.saver.now
    c.args.self.now.disk.now c.args.self.now.disk.now g.met.D.Disk.only_now
    (IfSome_then c.args.self.now.saver.now c.requires.can_save (λ saver can. can.stands)) refl refl)
