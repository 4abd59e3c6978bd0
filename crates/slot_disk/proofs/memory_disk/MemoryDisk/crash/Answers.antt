use Rattle.std.proofs.Common.{◌≡◌, sym, subst, rules}
use Rattle.slot_disk.specs.MemoryDisk.{disk_now}
use Rattle.slot_disk.specs.Recorded.{crash_image}
use Rattle.slot_disk.proofs.CrashLemmas.{crash_choice_is_possible}
use Rattle.slot_disk.proofs.memory_disk.MemoryDisk.crash.Goals as goal

pub returns-clause-possible : goal.returns-clause-possible
returns-clause-possible c =
    let exact : c.in_ok-image.image.items ≡ crash_image c.args.choice c.args.self.now.first c.args.self.now.steps = search rules in
    subst (disk_now c.args.self.now) (sym exact) (crash_choice_is_possible c.args.choice c.args.self.now.first c.args.self.now.steps)
