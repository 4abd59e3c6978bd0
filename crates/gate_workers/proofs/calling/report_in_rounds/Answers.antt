use Rattle.std.proofs.Common.{◌≡◌, ◌+◌, [], ◌∷◌, ◌++◌, None, Result, Ok, Err, OnErr, All, subst, sym, arith}
use Rattle.std.proofs.lemmas.List.Elements.{All-nil, All-cons, All-append}
use Rattle.shard_state.specs.{core_shape, core_lists}
use Rattle.hhh_report.specs.{IsSound}
use Rattle.hhh_report.specs.declared.reports.Reported.{Reported}
use Rattle.pass_tokens.specs.{view}
use Rattle.gate_workers.specs.Calling.{Calls}
use Rattle.gate_workers.proofs.CallLemmas.{no_calls, more_calls, calls_read_in_rounds}
use Rattle.gate_workers.proofs.CallLemmas.{calls_read_once_more}
use Rattle.gate_workers.proofs.calling.report_in_rounds.Goals as goal

pub loop-round-init : goal.loop-round-init
loop-round-init g c =
    let opening = c.args.board.now.opening in
    let none : c.new-reports.result ≡ [] = c.new-reports.ensures in (
      c.requires.pass,
      c.requires.shape,
      λ _.
          subst (All
          (λ (reported : Reported). IsSound (core_shape opening).grain reported.report (core_lists opening) (core_shape opening).capacity c.args.phi))
          (sym none)
          (All-nil
          (λ (reported : Reported). IsSound (core_shape opening).grain reported.report (core_lists opening) (core_shape opening).capacity c.args.phi)),
      subst (Calls opening c.args.phi 0 (view c.args.pass.now) (view c.args.pass.now)) (sym none)
          (no_calls opening c.args.phi (view c.args.pass.now)),
    )

pub loop-round-preserved : goal.loop-round-preserved
loop-round-preserved g c =
    let opening = c.args.board.now.opening in
    let far = c.loop-round.invariant in
    let once = c.in_ok-report.ensures in
    let reported : Reported = record { report = c.in_ok-report.report; saved = None } in
    let pushed : c.push.new.self ≡ c.loop-round.reports ++ reported ∷ [] = c.in_ok-push.ensures.ok in (
      once.pass,
      once.shape,
      λ bases.
          subst (All
          (λ (reported : Reported). IsSound (core_shape opening).grain reported.report (core_lists opening) (core_shape opening).capacity c.args.phi))
          (sym pushed)
          (All-append (λ (reported : Reported). IsSound (core_shape opening).grain reported.report (core_lists opening) (core_shape opening).capacity
          c.args.phi) c.loop-round.reports (reported ∷ []) (far.2 bases)
          (All-cons (λ (reported : Reported). IsSound (core_shape opening).grain reported.report (core_lists opening) (core_shape opening).capacity
          c.args.phi) reported [] (once.sound bases)
          (All-nil (λ (reported : Reported). IsSound (core_shape opening).grain reported.report (core_lists opening) (core_shape opening).capacity
          c.args.phi)))),
      subst
          (Calls opening c.args.phi (c.loop-round.round + 1) (view c.args.pass.now) (view c.report_once.new.pass))
          (sym pushed)
          (more_calls opening c.args.phi c.loop-round.round 1 (view c.args.pass.now) (view c.loop-round.pass)
          (view c.report_once.new.pass) c.loop-round.reports (reported ∷ []) c.requires.pass.seat.trails far.3
          once.calls),
    )

-- what holds whatever was returned holds after an error
after_error : {T E P : Type 0} (result : Result T E) → P → OnErr result P
after_error (Ok x) holds = tt
after_error (Err e) holds = holds

pub returns-in_err-report-clause-in_part : goal.returns-in_err-report-clause-in_part
returns-in_err-report-clause-in_part g c =
    after_error c.from_residual.result
    (calls_read_once_more c.args.board.now.opening c.args.phi c.loop-round.round c.args.rounds (view c.args.pass.now)
    (view c.loop-round.pass) (view c.report_once.new.pass) c.loop-round.reports c.loop-round-test.true
    c.loop-round.invariant.3 c.report_once.ensures.reads)

pub returns-in_err-push-clause-in_part : goal.returns-in_err-push-clause-in_part
returns-in_err-push-clause-in_part g c =
    let reported : Reported = record { report = c.in_ok-report.report; saved = None } in
    after_error c.from_residual-in_err-push.result
    (calls_read_in_rounds c.args.board.now.opening c.args.phi (c.loop-round.round + 1) c.args.rounds (view c.args.pass.now)
    (view c.report_once.new.pass) (c.loop-round.reports ++ reported ∷ []) (omega (arith, c.loop-round-test.true))
    (more_calls c.args.board.now.opening c.args.phi c.loop-round.round 1 (view c.args.pass.now) (view c.loop-round.pass)
    (view c.report_once.new.pass) c.loop-round.reports (reported ∷ []) c.requires.pass.seat.trails
    c.loop-round.invariant.3 c.in_ok-report.ensures.calls))
