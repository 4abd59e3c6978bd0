use Rattle.std.proofs.Common.{◌∷◌, drop, sym, ap, ap₂, ◌∙◌}
use Rattle.report_text.specs.Stages.{words_in}
use Rattle.report_text.proofs.ByteCutLemmas.{words_at_byte_cut, words_without_byte_cut}
use Rattle.report_text.proofs.word_cut.cut_word.Goals as goal

pub returns-in_default-clause-last : goal.returns-in_default-clause-last
returns-in_default-clause-last c = words_without_byte_cut c.args.text.now (sym c.place_of.ensures ∙ c.in_default.is)

pub returns-clause-cut : goal.returns-clause-cut
returns-clause-cut c =
    words_at_byte_cut c.in-Some.at c.args.text.now (sym c.in-Some.ensures)
    ∙ ap₂ (λ word rest. word ∷ words_in rest) (sym c.split_at.ensures.front)
    (ap (drop 1) (sym c.split_at.ensures.back) ∙ sym c.split_at-2.ensures.back)
