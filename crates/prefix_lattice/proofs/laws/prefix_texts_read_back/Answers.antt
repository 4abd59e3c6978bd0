use Rattle.prefix_lattice.proofs.TextLengthLemmas.{length-prefix_text}
use Rattle.prefix_lattice.proofs.WholeTextLemmas.{whole_text-read_back, whole_text-written_as_read}
use Rattle.prefix_lattice.proofs.WholeTextLemmas.{whole_text-tells_prefix}
use Rattle.prefix_lattice.proofs.laws.prefix_texts_read_back.Goals as goal

pub returns-clause-read : goal.returns-clause-read
returns-clause-read c = whole_text-read_back

pub returns-clause-written : goal.returns-clause-written
returns-clause-written c = whole_text-written_as_read

pub returns-clause-apart : goal.returns-clause-apart
returns-clause-apart c = whole_text-tells_prefix

pub returns-clause-short : goal.returns-clause-short
returns-clause-short c = length-prefix_text
