use Rattle.std.proofs.Common.{◌<◌, ◌++◌, length, drop, ap, ◌∙◌, arith}
use Rattle.prefix_lattice.specs.Prefix.{PrefixValue}
use Rattle.prefix_lattice.specs.PrefixText.{side_text, prefix_text}
use Rattle.prefix_lattice.proofs.WrittenPartLemmas.{written_part-sides}
use Rattle.prefix_lattice.proofs.prefix.Prefix.write_text.Goals as goal

pub returns-clause-text : goal.returns-clause-text
returns-clause-text c =
    let into = c.args.into.now in
    let within : c.write_side-end.result < length into = omega (arith, c.told-into, c.write_side-end.ensures.short) in
    written_part-sides into c.write_side-end.new.text c.write_side.new.text 32 c.write_side-end.result c.write_side.result
    (side_text c.self.inside.source) (side_text c.self.inside.dest) within c.write_side-end.auto.text
    c.write_side-end.ensures.written c.write_side.ensures.written
    ∙ ap (λ (p : PrefixValue). prefix_text p ++ drop c.write_side.result into) c.self.view_is
