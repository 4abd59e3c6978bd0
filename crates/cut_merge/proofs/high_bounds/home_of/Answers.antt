use Rattle.std.proofs.Common.{refl}
use Rattle.cut_merge.specs.HighBounds.{bound_home}
use Rattle.cut_merge.proofs.high_bounds.home_of.Goals as goal

pub returns-clause-value : goal.returns-clause-value
unfolding bound_home
returns-clause-value c = refl
