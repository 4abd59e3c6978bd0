-- What `clap` found for SEED and FRAMES is the traffic that the words ask for.
use Rattle.std.proofs.Common.{subst, sym}
use Rattle.std.proofs.lemmas.Result.{err_from_is_err_and, IfErr-weaker, IfOk-weaker}
use Rattle.command_words.specs.Matches.{values_in, store_in}
use Rattle.command_words.specs.Command.{AskForCommand}
use Rattle.command_words.specs.WordsRefusal.{HasWordsFault}
use Rattle.command_words.specs.declared.command_word.CommandWord.TheVariants.{Demo}
use Rattle.command_words.proofs.MatchLemmas.{matches_tell_demo, matches_tell_fault, matches_tell_narrow_settings}
use Rattle.command_words.proofs.OneValueFaultLemmas.{given_values_have_no_fault}
use Rattle.command_words.proofs.reading.demo_command.Goals as goal

pub returns-in_err-given-clause-err : goal.returns-in_err-given-clause-err
returns-in_err-given-clause-err c = λ words tells.
    let p = err_from_is_err_and c.from_residual.result c.from_residual.ensures.1 in
    rw (p.1, p.2)
    (matches_tell_fault words Demo c.args.matches.now tells c.in_err-given.field-0.0 tt c.in_err-given.ensures.err)

pub returns-clause-ok : goal.returns-clause-ok
returns-clause-ok c = λ words tells.
    IfOk-weaker c.demo_of.result _ (AskForCommand words)
    (λ asked is.
    subst (λ command. AskForCommand words command) (sym is.0)
    (matches_tell_demo words c.args.matches.now tells c.in_ok-given.given c.in_ok-given.ensures.ok is.1))
    c.demo_of.ensures.ok

pub returns-clause-err : goal.returns-clause-err
returns-clause-err c = λ words tells.
    let matches = c.args.matches.now in
    let given = c.in_ok-given.given in
    let gives = c.in_ok-given.ensures.ok in
    IfErr-weaker c.demo_of.result _ (HasWordsFault words)
    (λ kind bad.
    matches_tell_narrow_settings words Demo matches tells given.settings kind tt
    (given_values_have_no_fault (values_in matches) (store_in matches) given gives) gives.settings_set
    bad.0 bad.1)
    c.demo_of.ensures.err
