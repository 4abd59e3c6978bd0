use Rattle.std.proofs.Common.{◌≡◌, ◌++◌, false, take}
use Rattle.report_session.specs.Session.{session_parts}
use Rattle.report_session.proofs.session.put_reports.Given as goal

-- the reports so far were appended
abbrev pub invariant-loop-reported : goal.invariant-loop-reported
invariant-loop-reported l = l.text.items ≡ l.fn.text.items ++ session_parts false (take l.reported-index l.all)
