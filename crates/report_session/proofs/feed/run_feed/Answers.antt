use Rattle.std.proofs.Common.{ap}
use Rattle.std.proofs.lemmas.Option.{IfSome_then}
use Rattle.gate_workers.specs.declared.plan.ThreadPlan.{ThreadPlan}
use Rattle.pass_tokens.specs.{view}
use Rattle.report_session.proofs.RoundLemmas.{ended_rounds_say_less}
use Rattle.report_session.proofs.SaveLemmas.{no_save_into_untouched_disk, part_of_saves}
use Rattle.report_session.proofs.SessionThreadLemmas.{session_thread_ended_as_set, session_thread_ended_all_rounds}
use Rattle.report_session.proofs.SessionThreadLemmas.{session_threads_leave_rounds, session_threads_gathered_all}
use Rattle.report_session.proofs.SessionThreadLemmas.{session_thread_on_err, session_threads_ran_or_not}
use Rattle.report_session.proofs.SessionThreadLemmas.{session_thread_rounds_make_steps, session_threads_ran_as_planned}
use Rattle.report_session.proofs.feed.run_feed.Goals as goal

pub returns-in-Some-clause-part : goal.returns-in-Some-clause-part
returns-in-Some-clause-part g c =
    session_threads_leave_rounds _ _ c.args.board.now.opening c.args.setup.now.settings.now _ (view c.args.pass) _ _ _ _ _ _ _ c.requires.view
    c.requires.alike (λ before now does. ended_rounds_say_less _ _ _ _ _ _ _ _ _ _
    (session_thread_ended_as_set _ _ _ _ _ _ _ _ _ _ _ _ c.requires.share c.requires.count c.requires.used does.5)
    (λ saved unfinished kept. kept.saves)) (c.calls_follow_calls.ensures.more c.args.board.now.opening)
    (λ cuts saves. part_of_saves g.D.Disk _ _ _ cuts saves.saves) (λ same. (
      ap (λ work. g.K.Sink.taken work.sink.now) same,
      no_save_into_untouched_disk g.D.Disk
          c.args.rounds.now.saver.now c.args.rounds.now.disk.now _ g.met.D.Disk.only_now
          (IfSome_then c.args.rounds.now.saver.now c.requires.can_save (λ saver can. can.stands))
          (ap (λ work. work.disk.now) same),
    )) (session_threads_ran_or_not _ _ c.args.board.now.opening _ (view c.args.pass) c.run_threads-gathered.result
    c.run_threads-gathered.ensures.gathers c.run_threads-gathered.ensures.memory)

pub returns-in_err-gathered-clause-part : goal.returns-in_err-gathered-clause-part
returns-in_err-gathered-clause-part g c =
    session_thread_on_err c.from_residual.result _
    (session_threads_leave_rounds _ _ c.args.board.now.opening c.args.setup.now.settings.now _ (view c.args.pass) _ _ _ _ _ _ _ c.requires.view
    c.requires.alike (λ before now does. ended_rounds_say_less _ _ _ _ _ _ _ _ _ _
    (session_thread_ended_as_set _ _ _ _ _ _ _ _ _ _ _ _ c.requires.share c.requires.count c.requires.used does.5)
    (λ saved unfinished kept. kept.saves)) (c.calls_follow_calls.ensures.more c.args.board.now.opening)
    (λ cuts saves. part_of_saves g.D.Disk _ _ _ cuts saves.saves) (λ same. (
      ap (λ work. g.K.Sink.taken work.sink.now) same,
      no_save_into_untouched_disk g.D.Disk
          c.args.rounds.now.saver.now c.args.rounds.now.disk.now _ g.met.D.Disk.only_now
          (IfSome_then c.args.rounds.now.saver.now c.requires.can_save (λ saver can. can.stands))
          (ap (λ work. work.disk.now) same),
    )) c.in_err-gathered.ensures.memory)

pub returns-clause-ran : goal.returns-clause-ran
returns-clause-ran g c =
    session_threads_ran_as_planned _ _ c.args.board.now.opening _ _ (view c.args.pass) c.in_ok-gathered.gathered c.plan_of.ensures
    (λ before now does. session_thread_rounds_make_steps _ _ _ before now _ _ _ _ _ _
    (session_thread_ended_all_rounds _ _ _ _ _ _ _ _ _ c.in_default.is does.5)) c.in_ok-gathered.ensures.gathers

pub returns-clause-fed : goal.returns-clause-fed
returns-clause-fed g c =
    let plan = c.plan_of.ensures in
    let whole = session_threads_gathered_all _ c.args.board.now.opening c.args.setup.now.settings.now _ (view c.args.pass)
    c.in_ok-gathered.gathered _ _ _ _ _ c.requires.view c.requires.alike
    (ap (λ (plan : ThreadPlan). plan.phi) plan) (ap (λ (plan : ThreadPlan). plan.rounds) plan)
    (ap (λ (plan : ThreadPlan). plan.callers) plan)
    (λ before now does. session_thread_ended_all_rounds _ _ _ _ _ _ _ _ _ c.in_default.is
    (session_thread_ended_as_set _ _ _ _ _ _ _ _ _ _ _ _ c.requires.share c.requires.count c.requires.used does.5))
    c.in_ok-gathered.ensures.gathers c.in_ok-gathered.ensures.sound in
    record {
      pass = c.in_ok-gathered.ensures.pass;
      ends = c.in_ok-gathered.ensures.ends;
      rounds = whole.0;
      are_rounds = whole.1;
      written = whole.2;
      as_many = whole.3;
      callers = whole.4;
      kept = whole.5;
    }
