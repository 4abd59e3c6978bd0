use Rattle.std.proofs.Common.{arith}
use Rattle.std.proofs.lemmas.Grind.{common_steps}
use Rattle.std.proofs.lemmas.List.Elements.{filter_map-append}
use Rattle.conditioned_bounds.proofs.meets.push_meets.Goals as goal

pub loop-second-preserved : goal.loop-second-preserved
loop-second-preserved c = grind (arith, common_steps, filter_map-append)
