-- What holds of the images of a record: the facts that a disk in memory owes as a disk.
use Rattle.std.specs.Prelude.{ℕ, ◌≡◌, List, [], ◌∷◌, length, Some}
use Rattle.std.proofs.Common.{refl, subst, inl, inr, arith}
use Rattle.slot_disk.specs.Recorded.{RecordedStep, Wrote, Began, Synced, reading_of, IsImage}
use Rattle.slot_disk.specs.Recorded.{WasImage}
use Rattle.slot_disk.specs.Overwriting.{written_is_torn, torn_from_itself}

-- what a read gives is an image
pub reading_is_image : (first : List ℕ) (steps : List RecordedStep) → IsImage first steps (reading_of first steps)
reading_is_image first [] = refl
reading_is_image first (Wrote place piece ∷ earlier) =
    (reading_of first earlier, reading_is_image first earlier, written_is_torn place piece (reading_of first earlier))
reading_is_image first (Began place piece ∷ earlier) =
    (reading_of first earlier, reading_is_image first earlier, torn_from_itself place (length piece) (reading_of first earlier))
reading_is_image first (Synced ∷ earlier) = refl

-- an image now is one since each moment that is not later
pub now_is_since : (first : List ℕ) (steps : List RecordedStep) (t : ℕ) (image : List ℕ) → IsImage first steps image
    → WasImage first steps t image
now_is_since first [] t image is = is
now_is_since first (step ∷ earlier) t image is = inl is

-- an image since now is one now
pub only_now : (first : List ℕ) (steps : List RecordedStep) (image : List ℕ) → WasImage first steps (length steps) image
    → IsImage first steps image
only_now first [] image was = was
only_now first (step ∷ earlier) image (inl is) = is
only_now first (step ∷ earlier) image (inr was) = absurd (omega (arith, was.0))

pub is_image-reading : (first : List ℕ) (steps : List RecordedStep) (bytes : List ℕ) → Some (reading_of first steps) ≡ Some bytes
    → IsImage first steps bytes
is_image-reading first steps bytes is = let same : reading_of first steps ≡ bytes = cc in subst (IsImage first steps) same
    (reading_is_image first steps)
