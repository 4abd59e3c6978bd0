-- The homes of a key, turn by turn, and the marks of homes.
use Rattle.std.proofs.Common.{◌≡◌, ℕ, ◌+◌, ◌*◌, ◌/◌, ◌%◌, ◌^◌, ◌<◌, List, length, get_or, set, suc, ap, sym, ◌∙◌, subst, ⊎_elim, arith}
use Rattle.std.proofs.Common.{get_or-set_same, get_or-set_other, bit_or}
use Rattle.std.specs.Int.{bit_at, w64}
use Rattle.std.proofs.lemmas.Bool.{cases_eq}
use Rattle.std.proofs.lemmas.Nat.Bits.{bit_at_set_same, bit_at_set_other}
use Rattle.key_index.specs.Homes.{mixed, mixed_after, scaled, home_at}
use Rattle.key_index.specs.HomeMarks.{IsMarked}

-- one turn more
pub home_mixed_on : (turns key number next : ℕ) → number ≡ mixed_after turns key → next ≡ mixed number → next ≡ mixed_after (turns + 1) key
home_mixed_on turns key number next was is =
    is ∙ ap mixed was ∙ ap (λ n. mixed_after n key) (let e : suc turns ≡ turns + 1 = omega arith in e)

-- the home after one turn more
pub home_of_mixed : (room turn key number next home : ℕ) → number ≡ mixed_after turn key → next ≡ mixed number → home ≡ scaled room next
    → home ≡ home_at room turn key
unfolding home_at
home_of_mixed room turn key number next home was is scales = scales ∙ ap (scaled room) (home_mixed_on turn key number next was is)

-- a word with one more bit
abbrev pub home_word_with : ℕ → ℕ → ℕ
home_word_with word home = bit_or word (1 * 2 ^ (home % 64) % 18446744073709551616)

-- a home is marked once its bit is set
pub home_is_marked : (words : List ℕ) (home : ℕ) → home / 64 < length words
    → IsMarked (set words (home / 64) (home_word_with (get_or words (home / 64) 0) home)) home
unfolding IsMarked
home_is_marked words home within =
    ap (λ n. bit_at n (home % 64)) (get_or-set_same words (home / 64) (home_word_with (get_or words (home / 64) 0) home) 0 within)
    ∙ bit_at_set_same w64 (get_or words (home / 64) 0) (home % 64) (omega arith)

-- and the others stay marked
pub home_stays_marked : (words : List ℕ) (home other : ℕ) → home / 64 < length words → IsMarked words other
    → IsMarked (set words (home / 64) (home_word_with (get_or words (home / 64) 0) home)) other
unfolding IsMarked
home_stays_marked words home other within marked =
    let word = get_or words (home / 64) 0 in
    let more = home_word_with word home in
    ⊎_elim
    (λ (here : other / 64 ≡ home / 64).
    ap (λ n. bit_at (get_or (set words (home / 64) more) n 0) (other % 64)) here
    ∙ ap (λ n. bit_at n (other % 64)) (get_or-set_same words (home / 64) more 0 within)
    ∙ ⊎_elim
    (λ (same : other % 64 ≡ home % 64). ap (bit_at more) same ∙ bit_at_set_same w64 word (home % 64) (omega arith))
    (λ (apart : other % 64 ≡ home % 64 → ⊥). bit_at_set_other w64 word (home % 64) (omega arith) (other % 64) apart
    ∙ ap (λ n. bit_at (get_or words n 0) (other % 64)) (sym here) ∙ marked)
    (cases_eq (other % 64) (home % 64)))
    (λ (there : other / 64 ≡ home / 64 → ⊥). ap (λ n. bit_at n (other % 64)) (get_or-set_other words (home / 64) (other / 64) more 0 there) ∙ marked)
    (cases_eq (other / 64) (home / 64))

-- the home of one turn more is marked
pub home_marked_on : (room turns key home : ℕ) (turned : List ℕ) → home ≡ home_at room turns key → IsMarked turned home
    → ((turn : ℕ) → turn < turns → turn < 8 → IsMarked turned (home_at room turn key))
    → (turn : ℕ) → turn < turns + 1 → turn < 8 → IsMarked turned (home_at room turn key)
home_marked_on room turns key home turned at marked before turn low early =
    ⊎_elim
    (λ (here : turn ≡ turns). subst (IsMarked turned) (at ∙ ap (λ t. home_at room t key) (sym here)) marked)
    (λ (there : turn ≡ turns → ⊥). before turn (omega arith) early)
    (cases_eq turn turns)
