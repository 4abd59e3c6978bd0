-- Words have one meaning, so what is read soundly is read exactly.
use Rattle.command_words.specs.Arguments.{argument_texts}
use Rattle.command_words.proofs.OneMeaningLemmas.{PrefixHasOneMeaning, asked_command_meaning_is_accepted}
use Rattle.command_words.proofs.OneMeaningLemmas.{faulty_meaning_is_always_told}
use Rattle.command_words.proofs.path_texts.paths.Goals as goal

pub returns-clause-complete : goal.returns-clause-complete
returns-clause-complete c =
    let law = c.prefix_texts_have_one_reading.ensures in
    let reading : PrefixHasOneMeaning = record {
      one_prefix = law.one_prefix;
      no_fault = law.no_fault;
      one_fault = law.one_fault;
    } in
    asked_command_meaning_is_accepted reading (argument_texts c.args.words.now) c.paths_in.result c.paths_in.ensures.bad

pub returns-clause-exact : goal.returns-clause-exact
returns-clause-exact c =
    let law = c.prefix_texts_have_one_reading.ensures in
    let reading : PrefixHasOneMeaning = record {
      one_prefix = law.one_prefix;
      no_fault = law.no_fault;
      one_fault = law.one_fault;
    } in
    faulty_meaning_is_always_told reading (argument_texts c.args.words.now) c.paths_in.result c.paths_in.ensures.asked c.paths_in.ensures.bad
