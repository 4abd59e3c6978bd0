use Rattle.std.proofs.lemmas.Result.{err_from_is_err_and}
use Rattle.command_words.proofs.reading.report_command.Goals as goal

pub returns-in_err-report_settings_of-clause-err : goal.returns-in_err-report_settings_of-clause-err
returns-in_err-report_settings_of-clause-err c = λ words tells.
    let p = err_from_is_err_and c.from_residual.result c.from_residual.ensures.1 in
    rw (p.1, p.2) (c.in_err-report_settings_of.ensures.err words tells)
