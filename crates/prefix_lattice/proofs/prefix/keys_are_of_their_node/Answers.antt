use Rattle.prefix_lattice.proofs.NodePrefixLemmas.{node_prefix-same_key, node_prefix-is_of_node}
use Rattle.prefix_lattice.proofs.PrefixKeyLemmas.{IsPrefixKey-prefix}
use Rattle.prefix_lattice.proofs.PrefixKeyLemmas.{IsPrefixKey-record_prefix}
use Rattle.prefix_lattice.proofs.prefix.keys_are_of_their_node.Goals as goal

pub returns-clause-of_prefix : goal.returns-clause-of_prefix
returns-clause-of_prefix c = IsPrefixKey-prefix

pub returns-clause-of_record : goal.returns-clause-of_record
returns-clause-of_record c = node_prefix-is_of_node

pub returns-clause-of_record_key : goal.returns-clause-of_record_key
returns-clause-of_record_key c = IsPrefixKey-record_prefix

pub returns-clause-apart : goal.returns-clause-apart
returns-clause-apart c = λ grain prefix other. node_prefix-same_key prefix other
