use Rattle.std.proofs.Common.{ap, codes}
use Rattle.session_audit.specs.Audit.{verdict_text}
use Rattle.session_audit.proofs.VerdictTextLemmas.{verdict_text_ends_in_number}
use Rattle.session_audit.proofs.audit.push_verdict.Goals as goal

pub returns-in-TooWide : goal.returns-in-TooWide
returns-in-TooWide c =
    verdict_text_ends_in_number c.push_number-in-TooWide.result _ c.args.text.now.items (codes "too wide in line ") c.in-TooWide.line
    (verdict_text c.args.verdict.now) (ap verdict_text c.in-TooWide.is) c.push_number-in-TooWide.ensures.appended

pub returns-in-LowLine : goal.returns-in-LowLine
returns-in-LowLine c =
    verdict_text_ends_in_number c.push_number-in-LowLine.result _ c.args.text.now.items (codes "below threshold in line ")
    c.in-LowLine.line (verdict_text c.args.verdict.now) (ap verdict_text c.in-LowLine.is)
    c.push_number-in-LowLine.ensures.appended
