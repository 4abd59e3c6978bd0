-- Words have one meaning, so what is read soundly is read exactly.
use Rattle.std.proofs.lemmas.Result.{IfOk-weaker}
use Rattle.command_words.specs.Arguments.{argument_texts}
use Rattle.command_words.specs.Command.{AskForCommand, IsLimitedCommand}
use Rattle.command_words.proofs.LimitLemmas.{asked_command_is_in_limits}
use Rattle.command_words.proofs.OneMeaningLemmas.{PrefixHasOneMeaning, asked_command_meaning_is_read}
use Rattle.command_words.proofs.OneMeaningLemmas.{faulty_meaning_is_always_told}
use Rattle.command_words.proofs.reading.read_words.Goals as goal

pub returns-clause-complete : goal.returns-clause-complete
returns-clause-complete c =
    let law = c.prefix_texts_have_one_reading.ensures in
    let reading : PrefixHasOneMeaning = record {
      one_prefix = law.one_prefix;
      no_fault = law.no_fault;
      one_fault = law.one_fault;
    } in
    asked_command_meaning_is_read reading (argument_texts c.args.words.now) c.command_in.result c.command_in.ensures.ok c.command_in.ensures.bad

pub returns-clause-exact : goal.returns-clause-exact
returns-clause-exact c =
    let law = c.prefix_texts_have_one_reading.ensures in
    let reading : PrefixHasOneMeaning = record {
      one_prefix = law.one_prefix;
      no_fault = law.no_fault;
      one_fault = law.one_fault;
    } in
    faulty_meaning_is_always_told reading (argument_texts c.args.words.now) c.command_in.result
    (IfOk-weaker c.command_in.result (AskForCommand (argument_texts c.args.words.now)) _ (λ asked asks. (asked, asks))
    c.command_in.ensures.ok)
    c.command_in.ensures.bad

pub returns-clause-limited : goal.returns-clause-limited
returns-clause-limited c =
    IfOk-weaker c.command_in.result (AskForCommand (argument_texts c.args.words.now)) IsLimitedCommand
    (λ asked asks. asked_command_is_in_limits (argument_texts c.args.words.now) asked asks) c.command_in.ensures.ok
