-- A word as a number: half of it, its last bit, and what a take and a give write.
use Rattle.std.proofs.Common.{◌≡◌, ℕ, zero, suc, ◌+◌, ◌/◌, ◌%◌, ◌<◌, ◌≤◌, ◌⊎◌, inl, inr, ⊎_elim, List, length, set}
use Rattle.std.proofs.Common.{refl, sym, ap, ◌∙◌, arith, subst}
use Rattle.std.specs.Prelude.{slice_index}
use Rattle.std.proofs.Math.Nat.{div-one, mod-lt}
use Rattle.std.specs.Int.Bits.{bit_or, bit_and, or_add_and}
use Rattle.std.proofs.lemmas.Bool.{cases_eq}
use Rattle.std.proofs.lemmas.Nat.Bits.{bit_at_lowest, shr_and_one}
use Rattle.std.proofs.lemmas.List.{get_or-set_same, get_or-set_other}
use Rattle.position_words.specs.Words.{IsEvenWord, IsOddWord}

position_word_last_bit : (word : ℕ) → bit_and word 1 ≡ word % 2
position_word_last_bit word = ap (λ n. bit_and n 1) (sym (div-one word)) ∙ shr_and_one word 0 ∙ bit_at_lowest word

-- an even word becomes the next odd one
pub position_word_marked_even : (word : ℕ) → IsEvenWord word → bit_or word 1 ≡ word + 1
position_word_marked_even word even = omega (arith, or_add_and word 1, position_word_last_bit word, even)

-- and an odd one stays
pub position_word_marked_odd : (word : ℕ) → IsOddWord word → bit_or word 1 ≡ word
position_word_marked_odd word odd = omega (arith, or_add_and word 1, position_word_last_bit word, odd)

position_word_bit_below_two : (n : ℕ) → n < 2 → (n ≡ 0) ⊎ (n ≡ 1)
position_word_bit_below_two zero below = inl refl
position_word_bit_below_two (suc zero) below = inr refl
position_word_bit_below_two (suc (suc n)) below = absurd (omega arith)

pub position_word_has_parity : (word : ℕ) → IsEvenWord word ⊎ IsOddWord word
position_word_has_parity word = position_word_bit_below_two (word % 2) (mod-lt word (omega arith))

pub position_word_even_unless_odd : (word : ℕ) → (IsOddWord word → ⊥) → IsEvenWord word
position_word_even_unless_odd word not_odd = ⊎_elim (λ even. even) (λ odd. absurd (not_odd odd)) (position_word_has_parity word)

-- the words of shards after one of them changed
module _ (words : List ℕ) (place word : ℕ) (inside : place < length words) where
  pub position_word_here : slice_index (set words place word) place ≡ word
  position_word_here = get_or-set_same words place word 0 inside

  pub position_word_there : (other : ℕ) → (other ≡ place → ⊥)
      → slice_index (set words place word) other ≡ slice_index words other
  position_word_there other apart = get_or-set_other words place other word 0 apart

  -- halves of words never fall if that of the changed one doesn't
  pub position_word_halves_rise : slice_index words place / 2 ≤ word / 2 → (other : ℕ)
      → slice_index words other / 2 ≤ slice_index (set words place word) other / 2
  position_word_halves_rise rises other =
      elim (cases_eq other place) [
        | inl same ↦
            subst (λ k. slice_index words k / 2 ≤ slice_index (set words place word) k / 2) (sym same)
            (omega (arith, rises, ap (λ n. n / 2) position_word_here))
        | inr apart ↦ omega (arith, position_word_there other apart)
      ]
