use Rattle.std.proofs.Common.{◌≡◌, position, drop, take, refl, sym, ap, ◌∙◌, eqb, subst, IfSome, IfNone}
use Rattle.report_text.specs.Session.{IsSessionLine, line_words}
use Rattle.report_text.specs.Stages.{words_in}
use Rattle.report_text.specs.declared.session_line.SessionLine.{SessionLine}
use Rattle.report_text.proofs.ByteCutLemmas.{byte_cut_at_first, no_byte_cut}
use Rattle.report_text.proofs.CursorLemmas.{cursor_finds_no_end, cursor_finds_bad_line, cursor_reads_next_line}
use Rattle.report_text.proofs.line_cursor.LineCursor.next.Goals as goal

pub returns-in_default-clause-fault : goal.returns-in_default-clause-fault
returns-in_default-clause-fault c = λ stage is_open stands.
    cursor_finds_no_end c.args.grain (record { texts = c.prefix_texts_read_back.ensures.apart; order = c.report_order_is_total.ensures.total })
    c.args.self.now stage is_open stands
    (no_byte_cut 10 (drop c.args.self.now.at c.args.self.now.text.now)
    (ap (position (λ b. eqb b 10)) (sym c.split_at.ensures.back) ∙ sym c.place_of.ensures ∙ c.in_default.is))

pub returns-in_default-2-clause-fault : goal.returns-in_default-2-clause-fault
returns-in_default-2-clause-fault c = λ stage is_open stands.
    let text = c.split_at-2.result.0.now in
    let refused = subst (λ o. IfNone o ((line : SessionLine) → IsSessionLine c.args.grain line → words_in text ≡ line_words line → ⊥))
    c.in_default-2.is c.in_ok-line.ensures.refused in
    let text_is : text ≡ take c.in-Some.len (drop c.args.self.now.at c.args.self.now.text.now) =
    c.split_at-2.ensures.front ∙ ap (take c.in-Some.len) c.split_at.ensures.back in
    cursor_finds_bad_line c.args.grain (record { texts = c.prefix_texts_read_back.ensures.apart; order = c.report_order_is_total.ensures.total })
    c.args.self.now c.in-Some.len stage stands
    (byte_cut_at_first 10 c.in-Some.len (drop c.args.self.now.at c.args.self.now.text.now)
    (ap (position (λ b. eqb b 10)) (sym c.split_at.ensures.back) ∙ sym c.in-Some.ensures))
    (λ line is same. refused line is (ap words_in text_is ∙ same))

pub returns-clause-read : goal.returns-clause-read
returns-clause-read c =
    let text = c.split_at-2.result.0.now in
    let read = subst (λ o. IfSome o (λ line. IsSessionLine c.args.grain line × (words_in text ≡ line_words line)))
    c.in-Some-2.is c.in_ok-line.ensures.read in
    let text_is : text ≡ take c.in-Some.len (drop c.args.self.now.at c.args.self.now.text.now) =
    c.split_at-2.ensures.front ∙ ap (take c.in-Some.len) c.split_at.ensures.back in
    cursor_reads_next_line c.args.grain c.args.self.now _ c.in-Some.len c.in-Some-2.line refl refl refl
    (byte_cut_at_first 10 c.in-Some.len (drop c.args.self.now.at c.args.self.now.text.now)
    (ap (position (λ b. eqb b 10)) (sym c.split_at.ensures.back) ∙ sym c.in-Some.ensures))
    read.0 (ap words_in (sym text_is) ∙ read.1)
