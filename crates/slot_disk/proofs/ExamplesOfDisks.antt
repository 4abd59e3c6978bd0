-- Worked examples of what calls of a disk and crashes leave, most by computing.
use Rattle.std.proofs.Common.{◌≡◌, ℕ, zero, suc, ◌<◌, ◌≤◌, List, [], ◌∷◌, length, get_or, Some}
use Rattle.std.proofs.Common.{None, true, false, refl, ap, inl, inr, arith}
use Rattle.slot_disk.specs.Images.{IfImageKnown, IfBothKnown, GivesRange, IsTornImage, IsWrittenImage}
use Rattle.slot_disk.specs.Images.{IsTornFrom, IsOnlyImage}
use Rattle.slot_disk.specs.Moments.{MomentsGoOn, CrashLeaves, IsUnchangedAt}
use Rattle.slot_disk.specs.Moments.{CrashLeaves-call}
use Rattle.slot_disk.specs.Recorded.{RecordedStep, Wrote, Began, Synced, bytes_over, range_start}
use Rattle.slot_disk.specs.Recorded.{after_write, reading_of, IsImage, WasImage}
use Rattle.slot_disk.specs.Recorded.{recorded_bytes}
use Rattle.slot_disk.specs.Recorded.{crash_image}
use Rattle.slot_disk.specs.MemoryDisk.{DiskState, fuse_blows_at, fuse_has_blown, call_fails}
use Rattle.slot_disk.specs.MemoryDisk.{write_fits, sync_fails}
use Rattle.slot_disk.specs.MemoryDisk.{write_fails, after_call, after_fault}
use Rattle.slot_disk.specs.MemoryDisk.{with_step, after_failed}
use Rattle.slot_disk.specs.MemoryDisk.{disk_reads, disk_now, disk_moment}
use Rattle.slot_disk.specs.MemoryDisk.{disk_since}
use Rattle.slot_disk.specs.Overwriting.{torn_from_itself}

pub known_bytes_are_short : IfImageKnown (Some (5 ∷ [])) (λ bytes. length bytes ≤ 1)
known_bytes_are_short bytes is = let same : 5 ∷ [] ≡ bytes = cc is in omega (arith, ap length same)

-- nothing is said of a disk whose bytes are unknown
pub unknown_bytes : IfImageKnown None (λ bytes. length bytes ≤ 1)
unknown_bytes bytes is = absurd (cc is)

pub bytes_that_stayed : IfBothKnown (Some (5 ∷ [])) (Some (5 ∷ [])) (λ before after. before ≡ after)
bytes_that_stayed before after was is = cc (was, is)

-- a read at offset 1 of three bytes gives two, although there is room for three
pub two_bytes_are_read : GivesRange 1 3 (5 ∷ 6 ∷ 7 ∷ []) (6 ∷ 7 ∷ 0 ∷ []) 2
two_bytes_are_read = record { count_is = refl; bytes_are = refl }

-- past the end nothing is read
pub nothing_is_read : GivesRange 4 3 (5 ∷ 6 ∷ 7 ∷ []) (0 ∷ 0 ∷ 0 ∷ []) 0
nothing_is_read = record { count_is = refl; bytes_are = refl }

pub other_bytes_are_not_read : GivesRange 1 3 (5 ∷ 6 ∷ 7 ∷ []) (6 ∷ 8 ∷ 0 ∷ []) 2 → ⊥
other_bytes_are_not_read gives = cc gives.bytes_are

-- three bytes, and what a write of one byte at offset 1 that was cut short may leave: any byte there, and more past the end
abbrev three : List ℕ
three = 5 ∷ 6 ∷ 7 ∷ []

abbrev torn_three : List ℕ
torn_three = 5 ∷ 9 ∷ 7 ∷ 8 ∷ []

before_is_kept : (k : ℕ) → k < 1 → k < 3 → get_or torn_three k 0 ≡ get_or three k 0
before_is_kept zero lt within = refl
before_is_kept (suc k) lt within = absurd (omega arith)

after_is_kept : (k : ℕ) → 2 ≤ k → k < 3 → get_or torn_three k 0 ≡ get_or three k 0
after_is_kept zero le within = absurd (omega arith)
after_is_kept (suc zero) le within = absurd (omega arith)
after_is_kept (suc (suc zero)) le within = refl
after_is_kept (suc (suc (suc k))) le within = absurd (omega arith)

pub byte_is_torn : IsTornImage 1 1 three torn_three
byte_is_torn = record { no_shorter = omega arith; before = before_is_kept; after = after_is_kept }

pub byte_beside_is_not_torn : IsTornImage 1 1 (5 ∷ 6 ∷ 7 ∷ []) (4 ∷ 6 ∷ 7 ∷ []) → ⊥
byte_beside_is_not_torn torn = let e : 4 ≡ 5 = torn.before 0 (omega arith) (omega arith) in absurd (omega (arith, e))

pub end_is_not_cut : IsTornImage 1 1 (5 ∷ 6 ∷ 7 ∷ []) (5 ∷ 6 ∷ []) → ⊥
end_is_not_cut torn = omega (arith, torn.no_shorter)

-- an empty write at offset 1 leaves what was there
pub nothing_is_written : IsWrittenImage 1 [] (5 ∷ 6 ∷ []) (5 ∷ 6 ∷ [])
nothing_is_written = record {
  torn = torn_from_itself 1 0 (5 ∷ 6 ∷ []);
  fits = λ k lt. absurd (omega (arith, lt));
  range = λ k lt. absurd (omega (arith, lt));
}

pub another_byte_is_not_written : IsWrittenImage 0 (1 ∷ []) (5 ∷ []) (2 ∷ []) → ⊥
another_byte_is_not_written written = let e : 2 ≡ 1 = written.range 0 (omega arith) in omega (arith, e)

-- of an empty disk a write at offset 0 that was cut short leaves any bytes
pub torn_from_nothing : IsTornFrom (λ image. image ≡ []) 0 1 (9 ∷ 9 ∷ [])
torn_from_nothing = (
  [],
  refl,
  record {
    no_shorter = omega arith;
    before = λ k lt within. absurd (omega (arith, within));
    after = λ k le within. absurd (omega (arith, within));
  },
)

pub one_image_only : IsOnlyImage (5 ∷ []) (λ image. image ≡ 5 ∷ [])
one_image_only image is = is

pub piece_within : bytes_over 1 (8 ∷ 9 ∷ []) (5 ∷ 6 ∷ 7 ∷ 4 ∷ []) ≡ 5 ∷ 8 ∷ 9 ∷ 4 ∷ []
piece_within = refl

pub piece_past_the_end : bytes_over 1 (8 ∷ 9 ∷ []) (5 ∷ 6 ∷ []) ≡ 5 ∷ 8 ∷ 9 ∷ []
piece_past_the_end = refl

-- a write of two bytes at offset 3 of one byte: its range begins at the old end, and a gap of two zero bytes is filled
pub range_begins_at_the_end : range_start 3 (5 ∷ []) ≡ 1
range_begins_at_the_end = refl

pub gap_is_filled : after_write 3 (6 ∷ 7 ∷ []) (5 ∷ []) ≡ 5 ∷ 0 ∷ 0 ∷ 6 ∷ 7 ∷ []
gap_is_filled = refl

-- the newest step comes first: a sync after that write
abbrev steps : List RecordedStep
steps = Synced ∷ Wrote 3 (6 ∷ 7 ∷ []) ∷ []

pub bytes_recorded : recorded_bytes steps ≡ 2
bytes_recorded = refl

pub write_is_read : reading_of (5 ∷ []) steps ≡ 5 ∷ 0 ∷ 0 ∷ 6 ∷ 7 ∷ []
write_is_read = refl

pub begun_write_is_not_read : reading_of (5 ∷ []) (Began 0 (9 ∷ []) ∷ steps) ≡ 5 ∷ 0 ∷ 0 ∷ 6 ∷ 7 ∷ []
begun_write_is_not_read = refl

-- after the sync what was written is the only image
pub synced_write_is_the_image : IsImage (5 ∷ []) steps (5 ∷ 0 ∷ 0 ∷ 6 ∷ 7 ∷ [])
synced_write_is_the_image = refl

pub lost_write_is_no_image : IsImage (5 ∷ []) steps (5 ∷ []) → ⊥
lost_write_is_no_image is = let lengths : 1 ≡ 5 = ap length is in omega (arith, lengths)

-- before the sync a crash could lose the write; since the sync it can't
pub write_could_be_lost : WasImage (5 ∷ []) steps 1 (5 ∷ [])
write_could_be_lost = inr (omega arith, inl (5 ∷ [], refl, torn_from_itself 3 2 (5 ∷ [])))

pub write_is_lost_no_more : WasImage (5 ∷ []) steps 2 (5 ∷ []) → ⊥
write_is_lost_no_more (inl now) = lost_write_is_no_image now
write_is_lost_no_more (inr before) = omega (arith, before.0)

-- the four choices of a crash before the sync
pub crash_that_drops : crash_image 0 (5 ∷ []) (Wrote 3 (6 ∷ 7 ∷ []) ∷ []) ≡ 5 ∷ []
crash_that_drops = refl

pub crash_that_keeps : crash_image 1 (5 ∷ []) (Wrote 3 (6 ∷ 7 ∷ []) ∷ []) ≡ 5 ∷ 0 ∷ 0 ∷ 6 ∷ 7 ∷ []
crash_that_keeps = refl

pub crash_that_fills : crash_image 2 (5 ∷ []) (Wrote 3 (6 ∷ 7 ∷ []) ∷ []) ≡ 5 ∷ 255 ∷ 255 ∷ 255 ∷ 255 ∷ []
crash_that_fills = refl

pub crash_that_halves : crash_image 3 (5 ∷ []) (Wrote 3 (6 ∷ 7 ∷ []) ∷ []) ≡ 5 ∷ 0 ∷ 0 ∷ []
crash_that_halves = refl

-- a crash that keeps all keeps a begun write too
pub crash_that_keeps_what_was_begun : crash_image 1 (5 ∷ []) (Began 0 (9 ∷ []) ∷ []) ≡ 9 ∷ []
crash_that_keeps_what_was_begun = refl

-- a disk with room for two bytes and a record of three, whose call 1 fails and whose fuse blows at call 4
abbrev disk : DiskState
disk = record { room = 2; log = 3; first = []; steps = []; fuse = Some 4; fails = 1 ∷ []; calls = 0; faults = 0 }

pub first_call_works : call_fails disk ≡ false
first_call_works = refl

pub second_call_fails : call_fails (after_call disk) ≡ true
second_call_fails = refl

pub no_fuse_blows : fuse_has_blown None 100 ≡ false
no_fuse_blows = refl

pub fuse_blows_at_its_call : fuse_blows_at (Some 4) 4 ≡ true
fuse_blows_at_its_call = refl

pub fuse_stays_blown : fuse_has_blown (Some 4) 5 ≡ true
fuse_stays_blown = refl

pub fuse_blows_once : fuse_blows_at (Some 4) 5 ≡ false
fuse_blows_once = refl

pub two_bytes_fit : write_fits disk 0 2 ≡ true
two_bytes_fit = refl

pub third_byte_is_past_the_room : write_fails disk 1 2 ≡ true
third_byte_is_past_the_room = refl

-- after two bytes the record has room for one more
abbrev used : DiskState
used = with_step (after_call disk) (Wrote 0 (1 ∷ 2 ∷ []))

pub record_is_nearly_full : write_fits used 0 2 ≡ false
record_is_nearly_full = refl

pub one_more_byte_fits : write_fits used 0 1 ≡ true
one_more_byte_fits = refl

pub sync_fails_at_a_call_that_fails : sync_fails used ≡ true
sync_fails_at_a_call_that_fails = refl

-- a write at the fuse that fits was begun, one that doesn't fit was not
abbrev at_fuse : DiskState
at_fuse = record used { calls = 4 }

pub write_at_the_fuse_is_begun : (after_failed at_fuse 0 (9 ∷ [])).steps ≡ Began 0 (9 ∷ []) ∷ Wrote 0 (1 ∷ 2 ∷ []) ∷ []
write_at_the_fuse_is_begun = refl

pub large_write_at_the_fuse_is_not_begun : after_failed at_fuse 0 (9 ∷ 9 ∷ []) ≡ after_fault at_fuse
large_write_at_the_fuse_is_not_begun = refl

-- a disk that counts a call does not change
pub count_changes_nothing : IsUnchangedAt disk_reads disk_now disk (after_call disk)
count_changes_nothing = record { same_reads = refl; same_images = λ image. (λ is. is, λ is. is) }

-- a call that only counts adds no image
pub time_goes_on : MomentsGoOn disk_moment disk_since disk (after_call disk)
time_goes_on = record { later = omega arith; earlier = λ t image le was. inl was }

-- an empty disk at which nothing was written leaves nothing
pub leaves_nothing : CrashLeaves disk_moment disk_since disk (after_call disk) (λ image. image ≡ [])
leaves_nothing = CrashLeaves-call disk_moment disk_since disk (after_call disk)
    (λ image. image ≡ []) time_goes_on (λ image was. was)
