use Rattle.std.proofs.Common.{◌≡◌, take}
use Rattle.report_session.specs.DealtFeed.{other_reports}
use Rattle.report_session.specs.Session.{other_parts}
use Rattle.report_session.proofs.session.reports_text.Given as goal

-- the text has the reports of the callers so far
abbrev pub invariant-loop-caller : goal.invariant-loop-caller
invariant-loop-caller l = l.text.items ≡ other_parts (take l.caller-index (other_reports l.called))
