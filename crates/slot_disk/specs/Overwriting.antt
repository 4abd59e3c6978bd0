-- What a piece written over bytes leaves of them, byte by byte.
use Rattle.std.specs.Prelude.{ℕ, ◌≡◌, ◌+◌, ◌-◌, ◌<◌, ◌≤◌, max, List, ◌++◌, length, take, drop}
use Rattle.std.proofs.Common.{refl, ◌∙◌, ap, arith, get_or}
use Rattle.std.proofs.lemmas.List.{length-take-le, length-drop, length-append, length-replicate}
use Rattle.std.proofs.lemmas.List.{get_or_append_left, get_or-append_right, get_or-take, get_or-drop}
use Rattle.slot_disk.specs.Images.{IsTornImage, IsWrittenImage}
use Rattle.slot_disk.specs.Recorded.{bytes_over, no_bytes, range_start, range_of}
use Rattle.slot_disk.specs.Recorded.{after_write}

module _ (start : ℕ) (piece bytes : List ℕ) (within : start ≤ length bytes) where
  front_length : length (take start bytes) ≡ start
  front_length = length-take-le start bytes within

  pub length-over : length (bytes_over start piece bytes) ≡ max (length bytes) (start + length piece)
  length-over = omega (
    arith,
    front_length,
    length-append (take start bytes) (piece ++ drop (start + length piece) bytes),
    length-append piece (drop (start + length piece) bytes),
    length-drop (start + length piece) bytes,
  )

  pub over_before : (k : ℕ) → k < start → get_or (bytes_over start piece bytes) k 0 ≡ get_or bytes k 0
  over_before k lt =
      get_or_append_left (take start bytes) (piece ++ drop (start + length piece) bytes) 0 k (omega (arith, front_length, lt))
      ∙ get_or-take start bytes k 0 lt

  pub over_inside : (k : ℕ) → k < length piece → get_or (bytes_over start piece bytes) (start + k) 0 ≡ get_or piece k 0
  over_inside k lt =
      get_or-append_right (take start bytes) (piece ++ drop (start + length piece) bytes) start (start + k) 0 front_length (omega arith)
      ∙ ap (λ n. get_or (piece ++ drop (start + length piece) bytes) n 0) (let e : start + k - start ≡ k = omega arith in e)
      ∙ get_or_append_left piece (drop (start + length piece) bytes) 0 k lt

  pub over_after : (k : ℕ) → start + length piece ≤ k → get_or (bytes_over start piece bytes) k 0 ≡ get_or bytes k 0
  over_after k le =
      get_or-append_right (take start bytes) (piece ++ drop (start + length piece) bytes) start k 0 front_length (omega arith)
      ∙ get_or-append_right piece (drop (start + length piece) bytes) (length piece) (k - start) 0 refl (omega arith)
      ∙ get_or-drop (start + length piece) bytes (k - start - length piece) 0
      ∙ ap (λ n. get_or bytes n 0) (let e : start + length piece + (k - start - length piece) ≡ k = omega arith in e)

-- bytes that were not touched
pub torn_from_itself : (place count : ℕ) (bytes : List ℕ) → IsTornImage place count bytes bytes
torn_from_itself place count bytes = record { no_shorter = omega arith; before = λ k lt within. refl; after = λ k le within. refl }

-- a piece of any length over a range, or over a front of it
pub over_is_torn : (place count : ℕ) (piece bytes : List ℕ) → range_start place bytes + length piece ≤ place + count
    → IsTornImage place count bytes (bytes_over (range_start place bytes) piece bytes)
over_is_torn place count piece bytes fits =
    let within : range_start place bytes ≤ length bytes = omega arith in
    record {
      no_shorter = omega (arith, length-over (range_start place bytes) piece bytes within);
      before = λ k lt in_old. over_before (range_start place bytes) piece bytes within k (omega arith);
      after = λ k le in_old. over_after (range_start place bytes) piece bytes within k (omega arith);
    }

pub length-zeros : (count : ℕ) → length (no_bytes count) ≡ count
length-zeros count = let zero_byte : ℕ = 0 in length-replicate count zero_byte

pub length-range : (place : ℕ) (piece bytes : List ℕ) → range_start place bytes + length (range_of place piece bytes) ≡ place + length piece
length-range place piece bytes =
    omega (arith, length-append (no_bytes (place - length bytes)) piece, length-zeros (place - length bytes))

-- a whole write
pub written_is_torn : (place : ℕ) (piece bytes : List ℕ) → IsTornImage place (length piece) bytes (after_write place piece bytes)
written_is_torn place piece bytes =
    over_is_torn place (length piece) (range_of place piece bytes) bytes (omega (arith, length-range place piece bytes))

pub written_is_written : (place : ℕ) (piece bytes : List ℕ) → IsWrittenImage place piece bytes (after_write place piece bytes)
written_is_written place piece bytes =
    let start = range_start place bytes in
    let range = range_of place piece bytes in
    let gap = no_bytes (place - length bytes) in
    let within : start ≤ length bytes = omega arith in
    let gap_length : length gap ≡ place - length bytes = length-zeros (place - length bytes) in
    let whole : length range ≡ length gap + length piece = length-append gap piece in
    record {
      torn = written_is_torn place piece bytes;
      fits = λ k lt. omega (arith, length-over start range bytes within, length-range place piece bytes);
      range = λ k lt.
          let e : place + k ≡ start + ((place - length bytes) + k) = omega arith in
          ap (λ n. get_or (after_write place piece bytes) n 0) e
          ∙ over_inside start range bytes within ((place - length bytes) + k) (omega arith)
          ∙ get_or-append_right gap piece (place - length bytes) ((place - length bytes) + k) 0 gap_length (omega arith)
          ∙ ap (λ n. get_or piece n 0) (let e2 : (place - length bytes) + k - (place - length bytes) ≡ k = omega arith in e2);
    }
