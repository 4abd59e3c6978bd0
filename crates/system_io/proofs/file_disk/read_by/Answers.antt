use Rattle.std.proofs.Common.{rules, arith}
use Rattle.std.proofs.lemmas.Slice.{drop-put_mid}
use Rattle.system_io.proofs.file_disk.read_by.Goals as goal

pub returns-clause-later_places : goal.returns-clause-later_places
returns-clause-later_places g c = drop-put_mid _ _ _ _ _ (omega arith) c.requires.within (search rules)
