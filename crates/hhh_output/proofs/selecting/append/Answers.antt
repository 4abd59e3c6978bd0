use Rattle.std.proofs.Common.{List, Contains, subst, sym}
use Rattle.prefix_lattice.specs.{PrefixValue}
use Rattle.hhh_output.proofs.AppendedLineLemmas.{appended_line_has_new_prefix}
use Rattle.hhh_output.proofs.selecting.append.Goals as goal

pub push-requires-in-loop-line-clause-new : goal.push-requires-in-loop-line-clause-new
push-requires-in-loop-line-clause-new c =
    subst (λ (before : List PrefixValue). ¬ Contains before c.line-item.result.prefix)
    (sym c.loop-line.invariant.prefixes)
    (appended_line_has_new_prefix c.args.reported.now.lines c.args.found.now c.loop-line.line-index c.line-item.result
    c.requires.distinct
    c.loop-line-test.true c.line-item.is)
