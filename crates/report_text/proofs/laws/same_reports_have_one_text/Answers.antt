use Rattle.std.proofs.Common.{◌∙◌, [], ◌∷◌, ◌++◌, ap, ap₂, codes}
use Rattle.report_text.specs.Printing.{lines_text, number_text, positions_text, text_line}
use Rattle.report_text.proofs.laws.same_reports_have_one_text.Goals as goal

pub returns : goal.returns
returns c = λ report other same.
    ap₂ (λ at total. text_line (codes "report" ∷ []) ++ at ++ total ++ number_text (codes "threshold") report.threshold
    ++ lines_text report.lines ++ text_line (codes "done" ∷ []))
    (ap (positions_text (codes "at")) same.positions) (ap (number_text (codes "total")) same.total)
    ∙ ap₂ (λ threshold lines. text_line (codes "report" ∷ []) ++ positions_text (codes "at") other.positions
    ++ number_text (codes "total") other.total ++ threshold ++ lines ++ text_line (codes "done" ∷ []))
    (ap (number_text (codes "threshold")) same.threshold) (ap lines_text same.lines)
