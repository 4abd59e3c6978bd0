-- Frames, and the draws for them.
use Rattle.std.proofs.Common.{◌≡◌, ℕ, zero, suc, ◌+◌, ◌-◌, ◌*◌, ◌≤◌, List, [], ◌∷◌, ◌++◌, length, refl, sym, ap, ◌∙◌}
use Rattle.std.proofs.Common.{arith, add-one, append_assoc, append-nil}
use Rattle.std.specs.List.{flat_map, range_with_len}
use Rattle.std.proofs.lemmas.Grind.{flat_map-append}
use Rattle.traffic_maker.specs.Making.{capture_header, made_capture, capture_frames}
use Rattle.traffic_maker.specs.Draws.{next_state, state_after}
use Rattle.traffic_maker.specs.Frame.{made_frame}

-- a list of four numbers
pub record IsMadeFrameAddress (xs : List ℕ) : Type 0 where
  pub first : ℕ
  pub second : ℕ
  pub third : ℕ
  pub fourth : ℕ
  pub are : xs ≡ first ∷ second ∷ third ∷ fourth ∷ []

pub made_frame_address_is_four : (xs : List ℕ) → length xs ≡ 4 → IsMadeFrameAddress xs
made_frame_address_is_four [] four_long = absurd (omega (arith, four_long))
made_frame_address_is_four (a ∷ []) four_long = absurd (omega (arith, four_long))
made_frame_address_is_four (a ∷ b ∷ []) four_long = absurd (omega (arith, four_long))
made_frame_address_is_four (a ∷ b ∷ c ∷ []) four_long = absurd (omega (arith, four_long))
made_frame_address_is_four (a ∷ b ∷ c ∷ d ∷ []) four_long = record { first = a; second = b; third = c; fourth = d; are = refl }
made_frame_address_is_four (a ∷ b ∷ c ∷ d ∷ e ∷ more) four_long = absurd (omega (arith, four_long))

-- one more draw
pub next_draw_for_made_frames : (seed count : ℕ) → state_after seed (count + 1) ≡ next_state (state_after seed count)
next_draw_for_made_frames seed count = ap (state_after seed) (add-one count)

-- the draws for one more frame
pub two_draws_per_made_frame : (seed index : ℕ)
    → state_after seed (2 * (index + 1)) ≡ next_state (next_state (state_after seed (2 * index)))
two_draws_per_made_frame seed index =
    let two : 2 * (index + 1) ≡ 2 * index + 1 + 1 = omega arith in
    ap (state_after seed) two ∙ next_draw_for_made_frames seed (2 * index + 1) ∙ ap next_state (next_draw_for_made_frames seed (2 * index))

-- two ranges that meet are one
made_frame_range_split : (first count more : ℕ)
    → range_with_len first (count + more) ≡ range_with_len first count ++ range_with_len (first + count) more
made_frame_range_split first zero more =
    let start : first + 0 ≡ first = omega arith in
    let all : 0 + more ≡ more = omega arith in
    ap (range_with_len first) all ∙ ap (λ a. range_with_len a more) (sym start)
made_frame_range_split first (suc count) more =
    let step : first + 1 + count ≡ first + suc count = omega arith in
    let all : suc count + more ≡ suc (count + more) = omega arith in
    ap (range_with_len first) all
    ∙ ap (λ rest. first ∷ rest)
    (made_frame_range_split (first + 1) count more ∙ ap (λ a. range_with_len (first + 1) count ++ range_with_len a more) step)

-- frames of two ranges that meet are those of both
pub made_frames_split : (seed first count more : ℕ)
    → capture_frames seed first (count + more) ≡ capture_frames seed first count ++ capture_frames seed (first + count) more
made_frames_split seed first count more =
    ap (flat_map (made_frame seed)) (made_frame_range_split first count more)
    ∙ flat_map-append (made_frame seed) (range_with_len first count) (range_with_len (first + count) more)

-- one frame more
pub one_made_frame_more : (seed first index : ℕ) → first ≤ index
    → capture_frames seed first (index + 1 - first) ≡ capture_frames seed first (index - first) ++ made_frame seed index
one_made_frame_more seed first index from =
    let count : index + 1 - first ≡ index - first + 1 = omega arith in
    let last : first + (index - first) ≡ index = omega arith in
    ap (capture_frames seed first) count ∙ made_frames_split seed first (index - first) 1
    ∙ ap (λ a. capture_frames seed first (index - first) ++ capture_frames seed a 1) last
    ∙ ap (λ l. capture_frames seed first (index - first) ++ l) (append-nil (made_frame seed index))

-- a capture of more frames has them at its end
pub capture_of_more_made_frames : (seed count more : ℕ)
    → made_capture seed (count + more) ≡ made_capture seed count ++ capture_frames seed count more
capture_of_more_made_frames seed count more =
    let from : 0 + count ≡ count = omega arith in
    ap (λ l. capture_header ++ l)
    (made_frames_split seed 0 count more ∙ ap (λ a. capture_frames seed 0 count ++ capture_frames seed a more) from)
    ∙ sym (append_assoc capture_header (capture_frames seed 0 count) (capture_frames seed count more))

-- one frame more
pub capture_of_next_made_frame : (seed index : ℕ) → made_capture seed (index + 1) ≡ made_capture seed index ++ made_frame seed index
capture_of_next_made_frame seed index =
    capture_of_more_made_frames seed index 1 ∙ ap (λ l. made_capture seed index ++ l) (append-nil (made_frame seed index))

-- the capture of no frames is the header
pub capture_of_no_made_frames : (seed : ℕ) → made_capture seed 0 ≡ capture_header
capture_of_no_made_frames seed = append-nil capture_header
