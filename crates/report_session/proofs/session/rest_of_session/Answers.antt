use Rattle.std.proofs.Common.{◌∙◌, ◌++◌, None, ap}
use Rattle.report_text.specs.{report_text}
use Rattle.pass_tokens.specs.{view}
use Rattle.report_session.specs.DealtFeed.{other_reports}
use Rattle.report_session.specs.Session.{other_parts}
use Rattle.report_session.proofs.RoundLemmas.{round_makes_report, round_report_has_positions}
use Rattle.report_session.proofs.SessionThreadLemmas.{session_thread_reports_at_ends}
use Rattle.report_session.proofs.session.rest_of_session.Goals as goal

pub print-requires-clause-positions : goal.print-requires-clause-positions
print-requires-clause-positions g c =
    round_report_has_positions c.args.board.now.opening _ c.in_ok-last.last c.shards-shards.ensures.kept
    (round_makes_report _ _ _ _ c.in_ok-last.last c.in_ok-last.ensures.calls)

pub print-requires-clause-threshold : goal.print-requires-clause-threshold
print-requires-clause-threshold g c =
    (round_makes_report _ _ _ _ c.in_ok-last.last c.in_ok-last.ensures.calls).is.threshold.heavy.some

pub saved_line-requires : goal.saved_line-requires
saved_line-requires g c =
    round_report_has_positions c.args.board.now.opening _ c.in_ok-last.last c.shards-shards.ensures.kept
    (round_makes_report _ _ _ _ c.in_ok-last.last c.in_ok-last.ensures.calls)

pub returns-clause-rest : goal.returns-clause-rest
returns-clause-rest g c =
    let last = c.in_ok-last.last in
    let shown = session_thread_reports_at_ends c.args.board.now.opening c.args.settings.now (view c.args.fed.gathered.pass) _ last
    c.requires.alike c.requires.ends c.in_ok-last.ensures.calls c.in_ok-last.ensures.sound in
    record {
      last = record { report = last; saved = None };
      shown = shown.0;
      at_ends = shown.1;
      cut_is = c.in_ok-last.ensures.cut;
      front_is =
          c.in_ok-print.ensures.ok ∙ ap (λ text. text ++ report_text last)
          (c.in_ok-front.ensures ∙ ap (λ called. other_parts (other_reports called)) c.deref.ensures.value);
      back_is =
          c.in_ok-extend_from_slice.ensures.items ∙ ap (λ text. text ++ c.args.tail.now) c.in_ok-back.ensures;
    }
