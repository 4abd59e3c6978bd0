use Rattle.std.proofs.lemmas.Result.{err_from_is_err_and}
use Rattle.command_words.specs.declared.command_word.CommandWord.TheVariants.{Report}
use Rattle.command_words.proofs.MatchLemmas.{matches_tell_fault}
use Rattle.command_words.proofs.reading.report_settings_of.Goals as goal

pub returns-in_err-settings_of-clause-err : goal.returns-in_err-settings_of-clause-err
returns-in_err-settings_of-clause-err c = λ words tells.
    let p = err_from_is_err_and c.from_residual.result c.from_residual.ensures.1 in
    rw (p.1, p.2)
    (matches_tell_fault words Report c.args.matches.now tells c.in_err-settings_of.field-0.0 tt c.in_err-settings_of.ensures.err)
