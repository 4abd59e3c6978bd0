use Rattle.std.proofs.Common.{subst}
use Rattle.std.proofs.lemmas.List.{take_all}
use Rattle.std.proofs.lemmas.List.Elements.{All-more}
use Rattle.prefix_lattice.specs.{IsPrefix}
use Rattle.hhh_report.specs.{AreOfGrain}
use Rattle.hhh_report.specs.declared.line.Line.{Line}
use Rattle.text_tests.proofs.tests.of_exact_audit.are_of_grain.Goals as goal

pub loop-line-preserved : goal.loop-line-preserved
loop-line-preserved c =
    All-more (λ (line : Line). IsPrefix c.args.grain line.prefix) c.args.lines.now c.loop-line.line-index c.line-item.result
    c.loop-line-test.true c.loop-line.invariant
    (subst (λ (line : Line). IsPrefix c.args.grain line.prefix) c.line-item.is (c.of_grain.ensures.0 c.if-not-of_grain.false))

pub returns : goal.returns
returns c = λ is.
    subst (AreOfGrain c.args.grain) (take_all c.loop-line.line-index c.args.lines.now c.loop-line-test.false)
    c.loop-line.invariant
