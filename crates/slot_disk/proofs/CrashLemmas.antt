-- What a crash leaves is an image.
use Rattle.std.proofs.Common.{◌≡◌, ℕ, ◌≤◌, List, [], ◌∷◌, length, replicate, refl, inl, inr, arith}
use Rattle.std.proofs.lemmas.Bool.{cases_eq}
use Rattle.std.proofs.lemmas.Bool.Decides.{nat_tests}
use Rattle.std.proofs.lemmas.List.{length-take, length-replicate}
use Rattle.slot_disk.specs.Recorded.{RecordedStep, Wrote, Began, Synced, IsImage, bytes_kept}
use Rattle.slot_disk.specs.Recorded.{crash_part, crash_image, range_of}
use Rattle.slot_disk.specs.Overwriting.{over_is_torn, length-range}
use Rattle.slot_disk.specs.Images.{IsTornImage}

-- no choice keeps more than the range
crash_keeps_at_most_range : (choice : ℕ) (bytes : List ℕ) → length (bytes_kept choice bytes) ≤ length bytes
crash_keeps_at_most_range choice bytes = elim (cases_eq choice 0) [
  | inl none ↦ grind (arith, nat_tests)
  | inr some ↦ elim (cases_eq choice 1) [
    | inl all ↦ grind (arith, nat_tests)
    | inr part ↦ elim (cases_eq choice 2) [
      | inl filled ↦
          let filler : ℕ = 255 in
          let size : length (replicate (length bytes) filler) ≡ length bytes = length-replicate (length bytes) filler in
          grind (arith, nat_tests)
      | inr half ↦ grind (arith, nat_tests, length-take {A = ℕ})
    ]
  ]
]

crash_is_torn : (choice place : ℕ) (piece image : List ℕ) → IsTornImage place (length piece) image (crash_part choice place piece image)
crash_is_torn choice place piece image =
    over_is_torn place (length piece) (bytes_kept choice (range_of place piece image)) image
    (omega (arith, crash_keeps_at_most_range choice (range_of place piece image), length-range place piece image))

pub crash_choice_is_possible : (choice : ℕ) (first : List ℕ) (steps : List RecordedStep) → IsImage first steps (crash_image choice first steps)
crash_choice_is_possible choice first [] = refl
crash_choice_is_possible choice first (Wrote place piece ∷ earlier) =
    (crash_image choice first earlier, crash_choice_is_possible choice first earlier, crash_is_torn choice place piece (crash_image choice first earlier))
crash_choice_is_possible choice first (Began place piece ∷ earlier) =
    (crash_image choice first earlier, crash_choice_is_possible choice first earlier, crash_is_torn choice place piece (crash_image choice first earlier))
crash_choice_is_possible choice first (Synced ∷ earlier) = refl
