-- What `clap` found for the options is the rule that the words give.
use Rattle.std.proofs.Common.{refl, subst, ◌∙◌}
use Rattle.std.proofs.lemmas.Result.{err_from_is_err_and}
use Rattle.prefix_lattice.specs.{SpellsPrefix}
use Rattle.command_words.specs.Given.{IsBadPrefix}
use Rattle.command_words.specs.declared.command_word.CommandWord.TheVariants.{Watch}
use Rattle.command_words.proofs.MatchLemmas.{matches_tell_bad_prefix, matches_tell_fault, matches_tell_sides_of_rule}
use Rattle.command_words.proofs.MatchLemmas.{matches_tell_grain, matches_tell_watch}
use Rattle.command_words.proofs.reading.watch_command.Goals as goal

pub returns-in_err-prefix-clause-err : goal.returns-in_err-prefix-clause-err
returns-in_err-prefix-clause-err c = λ words tells.
    let source = c.side_of-source.result.now in let dest = c.side_of-dest.result.now in
    let p = err_from_is_err_and c.from_residual.result c.from_residual.ensures.1 in
    rw (p.1, p.2)
    (matches_tell_bad_prefix words Watch c.args.matches.now tells source dest c.in_err-prefix.field-0.0
    (matches_tell_sides_of_rule words c.args.matches.now tells source dest c.side_of-source.ensures c.side_of-dest.ensures)
    (subst (λ grain. IsBadPrefix grain source dest c.in_err-prefix.field-0.0)
    (c.told_grain.ensures ∙ matches_tell_grain words c.args.matches.now tells) c.in_err-prefix.ensures.err))

pub returns-in_err-given-clause-err : goal.returns-in_err-given-clause-err
returns-in_err-given-clause-err c = λ words tells.
    let source = c.side_of-source.result.now in let dest = c.side_of-dest.result.now in
    let p = err_from_is_err_and c.from_residual-in_err-given.result c.from_residual-in_err-given.ensures.1 in
    rw (p.1, p.2)
    (matches_tell_fault words Watch c.args.matches.now tells c.in_err-given.field-0.0
    (record {
      source = source;
      dest = dest;
      sides =
          matches_tell_sides_of_rule words c.args.matches.now tells source dest c.side_of-source.ensures c.side_of-dest.ensures;
      prefix = c.in_ok-prefix.prefix;
      spelled =
          subst (λ grain. SpellsPrefix grain source dest c.in_ok-prefix.prefix)
          (c.told_grain.ensures ∙ matches_tell_grain words c.args.matches.now tells) c.in_ok-prefix.ensures.ok;
    })
    c.in_err-given.ensures.err)

pub returns-clause-ok : goal.returns-clause-ok
returns-clause-ok c = λ words tells.
    let source = c.side_of-source.result.now in let dest = c.side_of-dest.result.now in
    matches_tell_watch words c.args.matches.now tells c.in_ok-given.given source dest _
    (matches_tell_sides_of_rule words c.args.matches.now tells source dest c.side_of-source.ensures c.side_of-dest.ensures)
    (subst (λ grain. SpellsPrefix grain source dest c.in_ok-prefix.prefix)
    (c.told_grain.ensures ∙ matches_tell_grain words c.args.matches.now tells) c.in_ok-prefix.ensures.ok)
    refl c.in_ok-given.ensures.ok
