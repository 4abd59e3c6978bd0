use Rattle.std.proofs.Common.{◌∙◌, ◌++◌, ap, codes, decimal, sym}
use Rattle.run_status.specs.Status.{status_text}
use Rattle.run_status.proofs.AppendedTextLemmas.{appended_text_on_ok, appended_text_ends_in_number}
use Rattle.run_status.proofs.status.line.push_status.Goals as goal

pub returns-in-Damaged : goal.returns-in-Damaged
returns-in-Damaged c =
    appended_text_ends_in_number c.push_number.result _ c.args.line.now.items (codes "store damaged: slot ") c.from.result
    (status_text c.args.status.now)
    (ap status_text c.in-Damaged.is ∙ ap (λ n. codes "store damaged: slot " ++ decimal n) (sym c.from.ensures))
    c.push_number.ensures.appended

pub returns-in-OtherSettings : goal.returns-in-OtherSettings
returns-in-OtherSettings c =
    appended_text_on_ok c.extend_from_slice-in-OtherSettings.result _ _ _ _ c.extend_from_slice-in-OtherSettings.ensures.items
    (ap (λ status. c.args.line.now.items ++ status_text status) (sym c.in-OtherSettings.is))

pub returns-in-OtherCapture : goal.returns-in-OtherCapture
returns-in-OtherCapture c =
    appended_text_on_ok c.extend_from_slice-in-OtherCapture.result _ _ _ _ c.extend_from_slice-in-OtherCapture.ensures.items
    (ap (λ status. c.args.line.now.items ++ status_text status) (sym c.in-OtherCapture.is))

pub returns-in-AuditNo : goal.returns-in-AuditNo
returns-in-AuditNo c =
    appended_text_on_ok c.extend_from_slice-in-AuditNo.result _ _ _ _ c.extend_from_slice-in-AuditNo.ensures.items
    (ap (λ status. c.args.line.now.items ++ status_text status) (sym c.in-AuditNo.is))
