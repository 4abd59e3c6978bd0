use Rattle.pass_tokens.specs.{view}
use Rattle.report_session.proofs.SessionThreadLemmas.{session_thread_made_no_step, session_threads_ran_as_planned}
use Rattle.report_session.proofs.whole_report.count_all.Goals as goal

pub returns-clause-ran : goal.returns-clause-ran
returns-clause-ran g c =
    session_threads_ran_as_planned _ _ c.args.board.now.opening _ _ (view c.args.pass) c.in_ok-gathered.gathered c.plan_of.ensures
    (λ before now does. session_thread_made_no_step before now does) c.in_ok-gathered.ensures.gathers
