use Rattle.std.proofs.Common.{◌≡◌, rules}
use Rattle.slot_disk.specs.MemoryDisk.{after_call, after_fault}
use Rattle.slot_disk.proofs.ImageLemmas.{images_after_write, images_after_begun, images_after_none}
use Rattle.slot_disk.proofs.memory_disk.MemoryDisk.write_or_begin.Goals as goal

pub returns-then-is_ok-clause-images : goal.returns-then-is_ok-clause-images
returns-then-is_ok-clause-images c =
    let counted : c.count_call-counted.new.self ≡ after_call c.args.self.now = search rules in
    images_after_write _ _ _ _ _ counted c.write_whole.ensures

pub returns-then-fits-clause-images : goal.returns-then-fits-clause-images
returns-then-fits-clause-images c =
    let counted : c.count_call-counted.new.self ≡ after_fault c.args.self.now = search rules in
    images_after_begun _ _ _ _ _ counted c.begin_write.ensures

pub returns-else-blows-clause-images : goal.returns-else-blows-clause-images
returns-else-blows-clause-images c =
    let counted : c.count_call-counted.new.self ≡ after_fault c.args.self.now = search rules in
    images_after_none _ _ _ _ counted
