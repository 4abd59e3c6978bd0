use Rattle.std.proofs.Common.{length}
use Rattle.slot_disk.proofs.crashing.+reading.Given as goal

abbrev pub decreases-reading : goal.decreases-reading
decreases-reading l = length l.entries.now
