-- The record of a disk in memory: what was done to its first bytes, and the images that a crash may leave of them.
use Rattle.std.specs.Prelude.{ℕ, ◌≡◌, ◌+◌, ◌-◌, ◌/◌, ◌≤◌, ◌⊎◌, min, List, [], ◌∷◌, ◌++◌, length, take, drop, replicate}
use Rattle.std.specs.Prelude.{if◌then◌else◌, ◌==◌}
use Rattle.slot_disk.specs.Images.{IsTornFrom}

-- a whole write of these bytes at this offset, one that was begun only, or a sync that succeeded
pub data RecordedStep : Type 0 where
  Wrote : ℕ → List ℕ → RecordedStep
  Began : ℕ → List ℕ → RecordedStep
  Synced : RecordedStep

-- the bytes with a piece over those from this offset on, which is at most their end
abbrev pub bytes_over : ℕ → List ℕ → List ℕ → List ℕ
bytes_over start piece bytes = take start bytes ++ (piece ++ drop (start + length piece) bytes)

-- this many zero bytes
abbrev pub no_bytes : ℕ → List ℕ
no_bytes count = replicate count 0

-- the offset at which a write's range begins: its own, or the old end where that comes before it
abbrev pub range_start : ℕ → List ℕ → ℕ
range_start place bytes = min place (length bytes)

-- what a write puts into its range: zero bytes from the old end to its offset, and the piece
abbrev pub range_of : ℕ → List ℕ → List ℕ → List ℕ
range_of place piece bytes = no_bytes (place - length bytes) ++ piece

-- the bytes after a whole write
abbrev pub after_write : ℕ → List ℕ → List ℕ → List ℕ
after_write place piece bytes = bytes_over (range_start place bytes) (range_of place piece bytes) bytes

-- what a read gives after these steps, the newest of which comes first
abbrev pub reading_of : List ℕ → List RecordedStep → List ℕ
reading_of first [] = first
reading_of first (Wrote place piece ∷ earlier) = after_write place piece (reading_of first earlier)
reading_of first (Began place piece ∷ earlier) = reading_of first earlier
reading_of first (Synced ∷ earlier) = reading_of first earlier

-- a crash after these steps may leave this image: after a sync what a read gives, and after a write, whole or begun,
-- what such a write leaves where it is cut short
abbrev pub IsImage : List ℕ → List RecordedStep → List ℕ → Type 0
IsImage first [] image = image ≡ first
IsImage first (Wrote place piece ∷ earlier) image = IsTornFrom (IsImage first earlier) place (length piece) image
IsImage first (Began place piece ∷ earlier) image = IsTornFrom (IsImage first earlier) place (length piece) image
IsImage first (Synced ∷ earlier) image = image ≡ reading_of first earlier

-- a crash after the first t steps or later may have left this image
abbrev pub WasImage : List ℕ → List RecordedStep → ℕ → List ℕ → Type 0
WasImage first [] t image = IsImage first [] image
WasImage first (step ∷ earlier) t image =
    IsImage first (step ∷ earlier) image ⊎ ((t ≤ length earlier) × WasImage first earlier t image)

-- how many bytes the writes have in all
abbrev pub recorded_bytes : List RecordedStep → ℕ
recorded_bytes [] = 0
recorded_bytes (Wrote place piece ∷ earlier) = length piece + recorded_bytes earlier
recorded_bytes (Began place piece ∷ earlier) = length piece + recorded_bytes earlier
recorded_bytes (Synced ∷ earlier) = recorded_bytes earlier

-- what a crash keeps of the bytes of a range: 0 none, 1 all, 2 as many bytes 0xFF, any other choice the first half
abbrev pub bytes_kept : ℕ → List ℕ → List ℕ
bytes_kept choice bytes =
    if choice == 0 then [] else (if choice == 1 then bytes else (if choice == 2 then replicate (length bytes) 255 else take (length bytes / 2) bytes))

-- the image with what a crash of this choice keeps of a write's range
abbrev pub crash_part : ℕ → ℕ → List ℕ → List ℕ → List ℕ
crash_part choice place piece image = bytes_over (range_start place image)
    (bytes_kept choice (range_of place piece image)) image

-- the image that a crash of this choice leaves
abbrev pub crash_image : ℕ → List ℕ → List RecordedStep → List ℕ
crash_image choice first [] = first
crash_image choice first (Wrote place piece ∷ earlier) = crash_part choice place piece (crash_image choice first earlier)
crash_image choice first (Began place piece ∷ earlier) = crash_part choice place piece (crash_image choice first earlier)
crash_image choice first (Synced ∷ earlier) = reading_of first earlier
