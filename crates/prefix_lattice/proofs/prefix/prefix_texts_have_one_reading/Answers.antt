use Rattle.prefix_lattice.proofs.PrefixTextLemmas.{prefix_text-tells_prefix, prefix_text-no_fault}
use Rattle.prefix_lattice.proofs.PrefixTextLemmas.{prefix_text-single_fault}
use Rattle.prefix_lattice.proofs.prefix.prefix_texts_have_one_reading.Goals as goal

pub returns-clause-one_prefix : goal.returns-clause-one_prefix
returns-clause-one_prefix c = prefix_text-tells_prefix

pub returns-clause-no_fault : goal.returns-clause-no_fault
returns-clause-no_fault c = prefix_text-no_fault

pub returns-clause-one_fault : goal.returns-clause-one_fault
returns-clause-one_fault c = prefix_text-single_fault
