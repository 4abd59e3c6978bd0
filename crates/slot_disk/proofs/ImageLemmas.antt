-- The images that a call of a disk in memory leaves.
use Rattle.std.proofs.Common.{◌≡◌, ℕ, List, length, sym, subst, ⊎_elim, ◌∙◌, ap}
use Rattle.slot_disk.specs.Images.{IsTornFrom}
use Rattle.slot_disk.specs.Recorded.{Wrote, Began, Synced, IsImage}
use Rattle.slot_disk.specs.MemoryDisk.{DiskState, with_step, disk_now}
use Rattle.slot_disk.specs.MemoryDisk.{disk_since, disk_moment, after_call}
use Rattle.slot_disk.specs.MemoryDisk.{after_fault}
use Rattle.slot_disk.specs.RecordedLaws.{reading_is_image, only_now}
use Rattle.slot_disk.specs.Overwriting.{torn_from_itself}

-- a call that only counts, or fails
pub images_after_call : (old new : DiskState) → new ≡ after_call old → (image : List ℕ)
    → disk_since new (disk_moment old) image → disk_now old image
images_after_call old new is image was =
    only_now old.first old.steps image (subst (λ (s : DiskState). disk_since s (disk_moment old) image) is was)

pub images_after_failed_call : (old new : DiskState) → new ≡ after_fault old → (image : List ℕ)
    → disk_since new (disk_moment old) image → disk_now old image
images_after_failed_call old new is image was =
    only_now old.first old.steps image (subst (λ (s : DiskState). disk_since s (disk_moment old) image) is was)

-- a sync
pub images_after_sync : (old mid new : DiskState) → mid ≡ after_call old → new ≡ with_step mid Synced → (image : List ℕ)
    → disk_since new (disk_moment old) image → disk_now old image
images_after_sync old mid new counted is image was =
    let e : new ≡ with_step (after_call old) Synced = is ∙ ap (λ (s : DiskState). with_step s Synced) counted in
    ⊎_elim (λ reads. subst (IsImage old.first old.steps) (sym reads) (reading_is_image old.first old.steps))
    (λ rest. only_now old.first old.steps image rest.1)
    (subst (λ (s : DiskState). disk_since s (disk_moment old) image) e was)

-- a whole write
pub images_after_write : (old mid new : DiskState) (place : ℕ) (piece : List ℕ) → mid ≡ after_call old
    → new ≡ with_step mid (Wrote place piece) → (image : List ℕ) → disk_since new (disk_moment old) image
    → IsTornFrom (disk_now old) place (length piece) image
images_after_write old mid new place piece counted is image was =
    let e : new ≡ with_step (after_call old) (Wrote place piece) = is
    ∙ ap (λ (s : DiskState). with_step s (Wrote place piece)) counted in
    ⊎_elim (λ torn. torn)
    (λ rest. (image, only_now old.first old.steps image rest.1, torn_from_itself place (length piece) image))
    (subst (λ (s : DiskState). disk_since s (disk_moment old) image) e was)

-- a write that was begun
pub images_after_begun : (old mid new : DiskState) (place : ℕ) (piece : List ℕ) → mid ≡ after_fault old
    → new ≡ with_step mid (Began place piece) → (image : List ℕ) → disk_since new (disk_moment old) image
    → IsTornFrom (disk_now old) place (length piece) image
images_after_begun old mid new place piece counted is image was =
    let e : new ≡ with_step (after_fault old) (Began place piece) = is
    ∙ ap (λ (s : DiskState). with_step s (Began place piece)) counted in
    ⊎_elim (λ torn. torn)
    (λ rest. (image, only_now old.first old.steps image rest.1, torn_from_itself place (length piece) image))
    (subst (λ (s : DiskState). disk_since s (disk_moment old) image) e was)

-- a write that failed and wrote nothing
pub images_after_none : (old new : DiskState) (place count : ℕ) → new ≡ after_fault old → (image : List ℕ)
    → disk_since new (disk_moment old) image → IsTornFrom (disk_now old) place count image
images_after_none old new place count is image was =
    (image, images_after_failed_call old new is image was, torn_from_itself place count image)
