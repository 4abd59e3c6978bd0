use Rattle.std.proofs.Common.{refl, sym, ◌∙◌, ◌∷◌}
use Rattle.std.proofs.lemmas.Bool.{false≢true}
use Rattle.command_words.specs.Arguments.{argument_texts}
use Rattle.command_words.specs.FormNames.{word_of}
use Rattle.command_words.specs.declared.command_word.CommandWord.TheVariants.{Report}
use Rattle.command_words.specs.declared.words_kind.WordsKind.TheVariants.{Refused}
use Rattle.command_words.proofs.FirstWordLemmas.{first_word_fault_is_told, same_form_by_first_word}
use Rattle.command_words.proofs.reading.settings_behind_report.Goals as goal

pub returns-then-not-are_well_formed-clause-bad : goal.returns-then-not-are_well_formed-clause-bad
returns-then-not-are_well_formed-clause-bad c = λ kind same.
    first_word_fault_is_told (word_of Report ∷ argument_texts c.args.behind.now) Refused kind (
      Report,
      argument_texts c.args.behind.now,
      refl,
      λ arguments well. false≢true (sym c.if-not-are_well_formed.true ∙ (same_form_by_first_word _ _ _ _ c.form.ensures c.are_well_formed.ensures).1
          (arguments, well)),
    ) same
