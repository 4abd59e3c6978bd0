use Rattle.prefix_lattice.proofs.NodePrefixLemmas.{node_prefix-covers_by_key}
use Rattle.prefix_lattice.proofs.prefix.keys_tell_covering.Goals as goal

pub returns : goal.returns
returns c = λ grain prefix rec valid. node_prefix-covers_by_key prefix rec valid
