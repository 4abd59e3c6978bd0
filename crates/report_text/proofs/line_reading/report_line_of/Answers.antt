use Rattle.std.proofs.Common.{◌≡◌, ◌≤◌, [], ◌∷◌, decimal, sym, ap, ◌∙◌, arith}
use Rattle.std.proofs.lemmas.Fmt.{decimal_injective}
use Rattle.report_text.specs.Session.{report_words}
use Rattle.report_text.proofs.line_reading.report_line_of.Goals as goal

pub returns-then-lo-hi-clause-refused : goal.returns-then-lo-hi-clause-refused
returns-then-lo-hi-clause-refused c = λ line is same.
    let source = c.in-Some.source in
    let dest = c.in-Some-cut_word.dest in
    let low = c.in-Some-cut_word-2.low in
    let words : source.word.now ∷ dest.word.now ∷ low.word.now ∷ decimal c.in-Some-last_number.hi ∷ [] ≡ report_words line =
    ap (λ l. source.word.now ∷ dest.word.now ∷ low.word.now ∷ l) (sym c.in-Some-last_number.ensures.read)
    ∙ ap (λ l. source.word.now ∷ dest.word.now ∷ l) (sym c.in-Some-cut_word-2.ensures.cut)
    ∙ ap (λ l. source.word.now ∷ l) (sym c.in-Some-cut_word.ensures.cut) ∙ sym c.in-Some.ensures.cut ∙ same in
    let lows : low.word.now ≡ decimal line.lo = cc in
    let highs : decimal c.in-Some-last_number.hi ≡ decimal line.hi = cc in
    let lo_is : c.in-Some-number_of.lo ≡ line.lo =
    decimal_injective c.in-Some-number_of.lo line.lo (omega arith) is.showable.low
    (sym c.in-Some-number_of.ensures.some ∙ lows) in
    let hi_is : c.in-Some-last_number.hi ≡ line.hi =
    decimal_injective c.in-Some-last_number.hi line.hi (omega arith) is.showable.high highs in
    let ordered : line.lo ≤ line.hi = is.ordered in
    omega arith
