use Rattle.command_words.proofs.LimitLemmas.{asked_command_is_in_limits}
use Rattle.command_words.proofs.OneMeaningLemmas.{asked_meaning_is_one_command}
use Rattle.command_words.proofs.laws.arguments_ask_for_one_command.Goals as goal

pub returns-clause-one : goal.returns-clause-one
returns-clause-one c =
    let law = c.prefix_texts_have_one_reading.ensures in
    asked_meaning_is_one_command
    (record { one_prefix = law.one_prefix; no_fault = law.no_fault; one_fault = law.one_fault })

pub returns-clause-limited : goal.returns-clause-limited
returns-clause-limited c = asked_command_is_in_limits
