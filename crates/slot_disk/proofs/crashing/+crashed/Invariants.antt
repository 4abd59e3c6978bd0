use Rattle.std.proofs.Common.{length}
use Rattle.slot_disk.proofs.crashing.+crashed.Given as goal

abbrev pub decreases-crashed : goal.decreases-crashed
decreases-crashed l = length l.entries.now
