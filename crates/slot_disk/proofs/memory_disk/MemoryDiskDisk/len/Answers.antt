use Rattle.slot_disk.proofs.ImageLemmas.{images_after_call, images_after_failed_call}
use Rattle.slot_disk.proofs.memory_disk.MemoryDiskDisk.len.Goals as goal

pub returns-in_err-count_call-clause-images : goal.returns-in_err-count_call-clause-images
returns-in_err-count_call-clause-images c = images_after_failed_call _ _ c.in_err-count_call.ensures.failed

pub returns-clause-images : goal.returns-clause-images
returns-clause-images c = images_after_call _ _ c.in_ok-count_call.ensures.went
