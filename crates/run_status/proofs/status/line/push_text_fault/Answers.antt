use Rattle.std.proofs.Common.{◌∙◌, ◌++◌, ap, codes, sym}
use Rattle.run_status.specs.Status.{session_text}
use Rattle.run_status.proofs.AppendedTextLemmas.{appended_text_on_ok, appended_text_ends_in_number}
use Rattle.run_status.proofs.AppendedTextLemmas.{appended_text_on_ok_implies}
use Rattle.run_status.proofs.status.line.push_text_fault.Goals as goal

pub returns-in-MissingEnd : goal.returns-in-MissingEnd
returns-in-MissingEnd c =
    let text = session_text c.args.fault.now in
    appended_text_on_ok_implies c.push_number-in-MissingEnd.result _ _
    (λ all. all ∙ ap (λ line. line ++ text) c.in_ok-extend_from_slice.ensures.items)
    (appended_text_ends_in_number c.push_number-in-MissingEnd.result _ _ (codes "no end at line ") c.in-MissingEnd.number text
    (ap session_text c.in-MissingEnd.is) c.push_number-in-MissingEnd.ensures.appended)

pub returns-in-TooLong : goal.returns-in-TooLong
returns-in-TooLong c =
    appended_text_on_ok c.extend_from_slice-in-TooLong.result _ _ _ _ c.extend_from_slice-in-TooLong.ensures.items
    (ap (λ line. line ++ codes "too long") c.in_ok-extend_from_slice.ensures.items
    ∙ ap (λ fault. c.args.line.now.items ++ codes "bad report: " ++ session_text fault) (sym c.in-TooLong.is))
