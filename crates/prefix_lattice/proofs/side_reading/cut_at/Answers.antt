use Rattle.std.proofs.Common.{◌++◌, ◌∷◌, drop, ap, sym, ◌∙◌}
use Rattle.prefix_lattice.proofs.TextCutLemmas.{text_cut-joined}
use Rattle.prefix_lattice.proofs.side_reading.cut_at.Goals as goal

pub returns-in-Some-clause-joined : goal.returns-in-Some-clause-joined
returns-in-Some-clause-joined c =
    text_cut-joined c.args.at c.in-Some.place c.args.text.now (sym c.in-Some.ensures)
    ∙ ap (λ l. l ++ c.args.at ∷ drop 1 (drop c.in-Some.place c.args.text.now)) (sym c.split_at.ensures.front)
    ∙ ap (λ l. c.split_at.result.0.now ++ c.args.at ∷ l)
    (ap (drop 1) (sym c.split_at.ensures.back) ∙ sym c.split_at-in-Some.ensures.back)
