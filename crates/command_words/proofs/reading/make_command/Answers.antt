-- What `clap` found for SEED and FRAMES is the traffic that the words ask for.
use Rattle.std.proofs.lemmas.Result.{err_from_is_err_and}
use Rattle.command_words.specs.declared.command_word.CommandWord.TheVariants.{Make}
use Rattle.command_words.proofs.MatchLemmas.{matches_tell_fault, matches_tell_make}
use Rattle.command_words.proofs.reading.make_command.Goals as goal

pub returns-in_err-given-clause-err : goal.returns-in_err-given-clause-err
returns-in_err-given-clause-err c = λ words tells.
    let p = err_from_is_err_and c.from_residual.result c.from_residual.ensures.1 in
    rw (p.1, p.2)
    (matches_tell_fault words Make c.args.matches.now tells c.in_err-given.field-0.0 tt c.in_err-given.ensures.err)

pub returns-clause-ok : goal.returns-clause-ok
returns-clause-ok c = λ words tells.
    matches_tell_make words c.args.matches.now tells c.in_ok-given.given c.in_ok-given.ensures.ok
