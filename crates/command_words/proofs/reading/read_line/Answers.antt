-- What `clap` found after the first word is what the words say.
use Rattle.std.proofs.Common.{sym, subst, ◌≡◌, ◌∙◌}
use Rattle.std.proofs.lemmas.Bool.{false≢true}
use Rattle.std.proofs.lemmas.Result.{err_from_is_err_and}
use Rattle.command_words.specs.Arguments.{argument_texts}
use Rattle.command_words.specs.WordsRefusal.{HasWordsFault}
use Rattle.command_words.proofs.FirstWordLemmas.{unknown_first_word_is_fault, refused_behind_first_word}
use Rattle.command_words.proofs.FirstWordLemmas.{matches_behind_first_word, first_word_fault_is_told}
use Rattle.command_words.proofs.FirstWordLemmas.{same_form_by_first_word}
use Rattle.command_words.proofs.reading.read_line.Goals as goal

pub returns-in_default-of-clause-bad : goal.returns-in_default-of-clause-bad
returns-in_default-of-clause-bad c = λ kind same.
    first_word_fault_is_told _ _ kind
    (unknown_first_word_is_fault c.args.words.now c.in-Some.first.now c.in-Some.behind.now c.in-Some.ensures.cases.0
    c.in_default-of.ensures.none) same

pub returns-then-not-are_well_formed-clause-bad : goal.returns-then-not-are_well_formed-clause-bad
returns-then-not-are_well_formed-clause-bad c = λ kind same.
    first_word_fault_is_told _ _ kind
    (refused_behind_first_word c.args.words.now c.in-Some.first.now c.in-Some.behind.now c.in-Some-of.word
    c.in-Some.ensures.cases.0 c.in-Some-of.ensures.some
    (λ arguments well. false≢true (sym c.if-not-are_well_formed.true ∙ (same_form_by_first_word _ _ _ _ c.form.ensures c.are_well_formed.ensures).1
    (arguments, well))))
    same

pub command_of-requires : goal.command_of-requires
command_of-requires c = (
  argument_texts c.args.words.now,
  matches_behind_first_word c.args.words.now c.in-Some.first.now c.in-Some.behind.now c.in-Some-of.word
      c.in_ok-matches.matches c.in-Some.ensures.cases.0 c.in-Some-of.ensures.some
      ((same_form_by_first_word _ _ _ _ c.form.ensures c.are_well_formed.ensures).0 c.if-not-are_well_formed.false) c.in_ok-matches.ensures,
)

pub returns-clause-ok : goal.returns-clause-ok
returns-clause-ok c =
    c.in_ok-command_of.ensures.ok (argument_texts c.args.words.now)
    (matches_behind_first_word c.args.words.now c.in-Some.first.now c.in-Some.behind.now c.in-Some-of.word
    c.in_ok-matches.matches c.in-Some.ensures.cases.0 c.in-Some-of.ensures.some
    ((same_form_by_first_word _ _ _ _ c.form.ensures c.are_well_formed.ensures).0 c.if-not-are_well_formed.false) c.in_ok-matches.ensures)

pub returns-clause-told : goal.returns-clause-told
returns-clause-told c =
    matches_behind_first_word c.args.words.now c.in-Some.first.now c.in-Some.behind.now c.in-Some-of.word
    c.in_ok-matches.matches c.in-Some.ensures.cases.0 c.in-Some-of.ensures.some
    ((same_form_by_first_word _ _ _ _ c.form.ensures c.are_well_formed.ensures).0 c.if-not-are_well_formed.false) c.in_ok-matches.ensures

pub returns-in_err-command_of-clause-bad : goal.returns-in_err-command_of-clause-bad
returns-in_err-command_of-clause-bad c = λ kind same.
    let words = argument_texts c.args.words.now in
    let residual = c.from_residual-in_err-command_of in
    let p = err_from_is_err_and residual.result residual.ensures.1 in
    let is : c.in_err-command_of.field-0.0 ≡ kind = cc (p.1, p.2, same) in
    subst (HasWordsFault words) is
    (c.in_err-command_of.ensures.err words
    (matches_behind_first_word c.args.words.now c.in-Some.first.now c.in-Some.behind.now c.in-Some-of.word
    c.in_ok-matches.matches c.in-Some.ensures.cases.0 c.in-Some-of.ensures.some
    ((same_form_by_first_word _ _ _ _ c.form.ensures c.are_well_formed.ensures).0 c.if-not-are_well_formed.false) c.in_ok-matches.ensures))
