use Rattle.std.proofs.Common.{◌*◌, ◌≤◌, sym, subst}
use Rattle.prefix_lattice.specs.Grain.{finest_grain, grain_lengths, node_count}
use Rattle.prefix_lattice.proofs.GrainLemmas.{grain_numbers}
use Rattle.prefix_lattice.proofs.grain.Grain.nodes.Goals as goal

pub returns-clause-few : goal.returns-clause-few
returns-clause-few c =
    subst (λ n. n * c.lengths-2.result ≤ node_count finest_grain) (sym c.lengths.ensures.value)
    (subst (λ n. grain_lengths c.args.self * n ≤ node_count finest_grain) (sym c.lengths-2.ensures.value)
    (grain_numbers c.args.self).few_nodes)
