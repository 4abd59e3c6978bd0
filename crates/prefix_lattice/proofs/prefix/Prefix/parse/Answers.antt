use Rattle.prefix_lattice.proofs.PrefixTextLemmas.{prefix_text-exactly_spelled, prefix_text-exact_fault}
use Rattle.prefix_lattice.proofs.prefix.Prefix.parse.Goals as goal

pub returns-clause-ok : goal.returns-clause-ok
returns-clause-ok c =
    prefix_text-exactly_spelled c.args.grain c.args.source.now c.args.dest.now c.parse_sides.result c.parse_sides.ensures.ok
    c.parse_sides.ensures.fault

pub returns-clause-fault : goal.returns-clause-fault
returns-clause-fault c =
    prefix_text-exact_fault c.args.grain c.args.source.now c.args.dest.now c.parse_sides.result c.parse_sides.ensures.ok
    c.parse_sides.ensures.fault
