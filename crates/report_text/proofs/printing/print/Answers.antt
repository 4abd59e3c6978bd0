use Rattle.std.proofs.Common.{◌++◌, codes, decimal, ap, ◌∙◌}
use Rattle.report_text.specs.Printing.{positions_text, lines_text}
use Rattle.report_text.proofs.TextPartLemmas.{text_parts_of_report}
use Rattle.report_text.proofs.printing.print.Goals as goal

pub returns-clause-ok : goal.returns-clause-ok
returns-clause-ok c =
    let report = c.args.report.now in
    text_parts_of_report c.args.into.now.items c.put.new.text.items c.put_positions.new.text.items
    c.put_number.new.text.items c.put_number-2.new.text.items c.put-2.new.text.items
    c.put_lines.new.text.items c.put-3.new.text.items (positions_text (codes "at") report.positions)
    (decimal report.total) (decimal report.threshold) (lines_text report.lines)
    (c.put.ensures.text ∙ ap (λ l. l ++ codes "report\n") c.reserve.ensures.items)
    (c.put_positions.ensures.text ∙ ap (λ l. c.put.new.text.items ++ positions_text (codes "at") l) c.as_slice.ensures)
    c.put_number.ensures.text c.put_number-2.ensures.text c.put-2.ensures.text
    (c.put_lines.ensures.text ∙ ap (λ l. c.put-2.new.text.items ++ lines_text l) c.as_slice-lines.ensures)
    c.put-3.ensures.text
