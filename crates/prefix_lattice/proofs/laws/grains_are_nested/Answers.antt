use Rattle.prefix_lattice.proofs.GrainLemmas.{grain_numbers}
use Rattle.prefix_lattice.proofs.laws.grains_are_nested.Goals as goal

pub returns : goal.returns
returns c = λ grain prefix valid. record {
  source = valid.source;
  dest = valid.dest;
  source_steps = (grain_numbers grain).refines _ valid.source_steps;
  dest_steps = (grain_numbers grain).refines _ valid.dest_steps;
}
