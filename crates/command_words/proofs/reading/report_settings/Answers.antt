-- Words have one meaning, so what is read soundly is read exactly.
use Rattle.std.proofs.Common.{◌∷◌}
use Rattle.std.proofs.lemmas.Result.{IfOk-weaker}
use Rattle.command_words.specs.Arguments.{argument_texts}
use Rattle.command_words.specs.Command.{IsLimitedCommand}
use Rattle.command_words.specs.FormNames.{word_of}
use Rattle.command_words.specs.Names.{AskForReport}
use Rattle.command_words.specs.declared.command.Command.TheVariants.{Report as ReportOf}
use Rattle.command_words.specs.declared.command_word.CommandWord.TheVariants.{Report}
use Rattle.command_words.proofs.LimitLemmas.{asked_command_is_in_limits}
use Rattle.command_words.proofs.OneMeaningLemmas.{PrefixHasOneMeaning, asked_report_meaning_is_read, faulty_meaning_is_always_told}
use Rattle.command_words.proofs.OptionFaultLemmas.{fault_is_of_options}
use Rattle.command_words.proofs.reading.report_settings.Goals as goal

pub returns-clause-limited : goal.returns-clause-limited
returns-clause-limited c =
    let behind = argument_texts c.args.behind.now in
    IfOk-weaker c.settings_behind_report.result (AskForReport behind) (λ settings. IsLimitedCommand (ReportOf settings))
    (λ settings asks. asked_command_is_in_limits (word_of Report ∷ behind) (ReportOf settings) asks)
    c.settings_behind_report.ensures.ok

pub returns-clause-complete : goal.returns-clause-complete
returns-clause-complete c =
    let law = c.prefix_texts_have_one_reading.ensures in
    let reading : PrefixHasOneMeaning = record {
      one_prefix = law.one_prefix;
      no_fault = law.no_fault;
      one_fault = law.one_fault;
    } in
    asked_report_meaning_is_read reading (word_of Report ∷ argument_texts c.args.behind.now) c.settings_behind_report.result
    c.settings_behind_report.ensures.ok c.settings_behind_report.ensures.bad

pub returns-clause-exact : goal.returns-clause-exact
returns-clause-exact c =
    let law = c.prefix_texts_have_one_reading.ensures in
    let reading : PrefixHasOneMeaning = record {
      one_prefix = law.one_prefix;
      no_fault = law.no_fault;
      one_fault = law.one_fault;
    } in
    let behind = argument_texts c.args.behind.now in
    faulty_meaning_is_always_told reading (word_of Report ∷ behind) c.settings_behind_report.result
    (IfOk-weaker c.settings_behind_report.result (AskForReport behind) _ (λ settings asks. (ReportOf settings, asks))
    c.settings_behind_report.ensures.ok) c.settings_behind_report.ensures.bad

pub returns-clause-named : goal.returns-clause-named
returns-clause-named c options arguments few formed kind same =
    fault_is_of_options options (argument_texts c.args.behind.now) arguments few formed kind (c.settings_behind_report.ensures.bad kind same)
