use Rattle.std.proofs.lemmas.Bool.{and_from}
use Rattle.prefix_lattice.proofs.AddressLemmas.{address_of-small}
use Rattle.prefix_lattice.proofs.UnderMeetLemmas.{under_meet-address_begins}
use Rattle.prefix_lattice.proofs.laws.prefixes_cover_their_own_addresses.Goals as goal

pub returns-clause-covers : goal.returns-clause-covers
returns-clause-covers c = λ grain prefix weight valid.
    and_from _ _ (under_meet-address_begins prefix.source valid.source) (under_meet-address_begins prefix.dest valid.dest)

pub returns-clause-source : goal.returns-clause-source
returns-clause-source c = λ grain prefix valid. address_of-small prefix.source valid.source

pub returns-clause-dest : goal.returns-clause-dest
returns-clause-dest c = λ grain prefix valid. address_of-small prefix.dest valid.dest
