use Rattle.std.proofs.Common.{refl}
use Rattle.key_index.specs.Homes.{scaled}
use Rattle.key_index.proofs.homes.home_of.Goals as goal

pub returns-clause-home : goal.returns-clause-home
unfolding scaled
returns-clause-home c = refl
