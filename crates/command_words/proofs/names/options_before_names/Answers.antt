-- The options are as many words as they are in any reading, and what follows them is the names.
use Rattle.std.proofs.Common.{refl, sym, ◌∙◌, subst, arith, Bor, List}
use Rattle.std.specs.List.{All}
use Rattle.std.proofs.lemmas.Bool.{false≢true}
use Rattle.std.proofs.lemmas.List.{take_rest}
use Rattle.command_words.specs.Arguments.{ArgumentText, IsValue, argument_texts}
use Rattle.command_words.proofs.FirstWordLemmas.{same_form_by_first_word}
use Rattle.command_words.proofs.LeadingOptionLemmas.{leading_options_need_a_name, leading_options_are_formed, leading_options_of_form}
use Rattle.command_words.proofs.LeadingOptionLemmas.{names_behind_leading_options_are_values, leading_options_of_count}
use Rattle.command_words.proofs.names.options_before_names.Goals as goal

pub returns-then-count-words-clause-exact : goal.returns-then-count-words-clause-exact
returns-then-count-words-clause-exact c front names are =
    let texts = argument_texts c.args.words.now in let options = argument_texts c.args.options.now in
    let is = c.leading_options-count.ensures.all front names are.arguments (leading_options_of_form options texts front names are) in
    absurd (leading_options_need_a_name options c.args.words.now front names are (sym c.if-count-words.true ∙ is))

pub returns-then-not-are_well_formed-clause-exact : goal.returns-then-not-are_well_formed-clause-exact
returns-then-not-are_well_formed-clause-exact c front names are =
    let texts = argument_texts c.args.words.now in let options = argument_texts c.args.options.now in
    let is = c.leading_options-count.ensures.all front names are.arguments (leading_options_of_form options texts front names are) in
    let formed = leading_options_are_formed options c.args.words.now c.leading_options-count.result front names is are in
    absurd (false≢true
    (sym c.if-not-are_well_formed.true ∙ (same_form_by_first_word _ _ _ _ c.form_of_options.ensures c.are_well_formed.ensures).1 formed))

pub returns-then-not-are_values-clause-exact : goal.returns-then-not-are_values-clause-exact
returns-then-not-are_values-clause-exact c front names are =
    let words = c.args.words.now in let count = c.leading_options-count.result in
    let texts = argument_texts words in let options = argument_texts c.args.options.now in
    let is = c.leading_options-count.ensures.all front names are.arguments (leading_options_of_form options texts front names are) in
    let values = names_behind_leading_options_are_values options words count front names is are in
    absurd (false≢true
    (c.if-not-are_values.ensures.1
    (subst (λ (ws : List (Bor ArgumentText)). All IsValue (argument_texts ws)) (sym (take_rest words count)) values)))

pub returns-clause-some : goal.returns-clause-some
returns-clause-some c =
    let words = c.args.words.now in let count = c.leading_options-count.result in
    let formed = (same_form_by_first_word _ _ _ _ c.form_of_options.ensures c.are_well_formed.ensures).0 c.if-not-are_well_formed.false in
    leading_options_of_count (argument_texts c.args.options.now) words count formed.0
    (omega (arith, c.leading_options-count.ensures.few, c.if-count-words.false)) formed.1
    (subst (λ (ws : List (Bor ArgumentText)). All IsValue (argument_texts ws)) (take_rest words count) (c.if-not-are_values.ensures.0 refl))
