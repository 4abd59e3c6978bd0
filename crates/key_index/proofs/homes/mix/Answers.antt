use Rattle.std.proofs.Common.{refl}
use Rattle.key_index.specs.Homes.{mixed}
use Rattle.key_index.proofs.homes.mix.Goals as goal

pub returns : goal.returns
unfolding mixed
returns c = refl
