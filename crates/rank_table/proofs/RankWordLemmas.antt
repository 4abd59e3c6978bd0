-- What the words of slots say of their ranks.
use Rattle.std.proofs.Common.{◌≡◌, ℕ, ◌+◌, ◌-◌, ◌*◌, ◌%◌, ◌^◌, ◌<◌, ◌≤◌, min, ap, ◌∙◌, ⊎_elim, arith}
use Rattle.std.proofs.lemmas.Bool.{cases_order}
use Rattle.std.proofs.lemmas.Nat.{mod-mul-add}
use Rattle.rank_table.specs.declared.slot.Slot.{Slot}
use Rattle.rank_table.specs.Ranks.{slot_rank}
use Rattle.rank_table.specs.Words.{rank_word, IsExactWord}

-- a word names its place
pub rank_word_names_place : (base : ℕ) (slot : Slot) (place : ℕ) → place < 4096 → rank_word base slot place % 4096 ≡ place
unfolding rank_word
rank_word_names_place base slot place within =
    let excess = min (slot.entry.count - base) (2 ^ 34 - 1) in
    let split : excess * 2 ^ 30 + slot.time * 4096 + place ≡ (excess * 2 ^ 18 + slot.time) * 4096 + place = omega arith in
    ap (λ n. n % 4096) split ∙ mod-mul-add (excess * 2 ^ 18 + slot.time) 4096 place within

-- and is at least that place
pub rank_word_not_below_place : (base : ℕ) (slot : Slot) (place : ℕ) → place ≤ rank_word base slot place
unfolding rank_word
rank_word_not_below_place base slot place = omega arith

-- and fits into 64 bits
pub rank_word_fits : (base : ℕ) (slot : Slot) (place : ℕ) → slot.time < 2 ^ 18 → place < 4096 → rank_word base slot place < 2 ^ 64
unfolding rank_word
rank_word_fits base slot place early within = omega arith

-- a word doesn't fall where count and time don't
pub rank_word_rises : (base : ℕ) (slot after : Slot) (place : ℕ) → slot.entry.count ≤ after.entry.count → slot.time ≤ after.time
    → rank_word base slot place ≤ rank_word base after place
unfolding rank_word
rank_word_rises base slot after place more later = omega arith

-- a slot whose word is exact and no greater than another's has a rank that is no greater
pub exact_rank_word_is_least : (base : ℕ) (slot other : Slot) (place at : ℕ) → IsExactWord base slot → base ≤ slot.entry.count → base ≤ other.entry.count
    → slot.time < 2 ^ 18 → other.time < 2 ^ 18 → place < 4096 → at < 4096
    → rank_word base slot place ≤ rank_word base other at → slot_rank slot ≤ slot_rank other
unfolding slot_rank rank_word
exact_rank_word_is_least base slot other place at exact above over early before within inside no_greater =
    let few : slot.entry.count - base < 2 ^ 34 - 1 = exact in
    ⊎_elim
    (λ (same : slot.entry.count ≡ other.entry.count). omega arith)
    (λ rest. ⊎_elim
    (λ (less : slot.entry.count < other.entry.count). omega arith)
    (λ (more : other.entry.count < slot.entry.count). omega arith)
    rest)
    (cases_order slot.entry.count other.entry.count)
