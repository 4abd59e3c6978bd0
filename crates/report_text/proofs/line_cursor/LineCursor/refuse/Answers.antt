use Rattle.report_text.proofs.CursorLemmas.{cursor_refuses_line}
use Rattle.report_text.proofs.line_cursor.LineCursor.refuse.Goals as goal

pub returns : goal.returns
returns c = λ grain old line stage stands reads none.
    cursor_refuses_line grain
    (record { texts = c.prefix_texts_read_back.ensures.apart; order = c.report_order_is_total.ensures.total })
    old c.args.self.now line stage stands reads none
