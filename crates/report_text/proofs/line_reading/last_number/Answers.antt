use Rattle.std.proofs.Common.{decimal, sym, ap, ◌∙◌}
use Rattle.std.specs.List.{join_with_byte}
use Rattle.report_text.specs.Stages.{words_in}
use Rattle.report_text.proofs.TextWordLemmas.{decimal_is_text_word}
use Rattle.report_text.proofs.WordListLemmas.{word_list_of_word, word_list_joins_to_text}
use Rattle.report_text.proofs.line_reading.last_number.Goals as goal

pub returns-in_default-clause-refused : goal.returns-in_default-clause-refused
returns-in_default-clause-refused c = λ number small same.
    c.in_default.ensures.none number small (sym (word_list_joins_to_text c.args.text.now) ∙ ap (join_with_byte 32) same)

pub returns-clause-read : goal.returns-clause-read
returns-clause-read c =
    ap words_in c.in-Some.ensures.some
    ∙ word_list_of_word (decimal c.in-Some.number) (decimal_is_text_word c.in-Some.number)
