-- Bodies in the bytes of a store: what reads of them give, and which tests they pass.
use Rattle.std.proofs.Common.{◌≡◌, ℕ, ◌+◌, ◌<◌, ◌≤◌, ◌⊎◌, List, length, take, drop, Option, Some, true, false, sym, ap, ◌∙◌, subst, arith}
use Rattle.std.proofs.lemmas.Bool.Decides.{nat_tests}
use Rattle.byteorder.specs.Endian.{big_from}
use Rattle.byteorder.specs.Numbers.{big_from-take}
use Rattle.slot_disk.specs.Images.{GivesRange}
use Rattle.slot_disk.specs.StoreLayout.{number_at, body_is_whole, IsNumberRead}

-- the number in the first n bytes of lists that agree on them
stored_body_number_is_same : (n count : ℕ) (xs ys : List ℕ) → n ≤ count → take count xs ≡ take count ys → big_from 0 n xs ≡ big_from 0 n ys
stored_body_number_is_same n count xs ys fits same =
    let within : 0 + n ≤ count = omega arith in
    sym (big_from-take 0 n count xs within) ∙ ap (λ (l : List ℕ). big_from 0 n l) same ∙ big_from-take 0 n count ys within

-- lists of bytes that agree on the first 8 bytes from two offsets on have the same number there
pub stored_body_number_at_offset : (place other count : ℕ) (xs ys : List ℕ) → 8 ≤ count → take count (drop place xs) ≡ take count (drop other ys)
    → number_at place xs ≡ number_at other ys
unfolding number_at
stored_body_number_at_offset place other count xs ys fits same = stored_body_number_is_same 8 count (drop place xs) (drop other ys) fits same

-- what a read of 8 bytes gives is the number at its offset
pub stored_body_number_is_given : (place count read : ℕ) (bytes head : List ℕ) → GivesRange place 8 bytes head count → 8 ≤ count
    → read ≡ big_from 0 8 head → (place + 8 ≤ length bytes) × (read ≡ number_at place bytes)
unfolding number_at
stored_body_number_is_given place count read bytes head gives fits is =
    (omega (arith, gives.count_is), is ∙ stored_body_number_is_same 8 count head (drop place bytes) fits gives.bytes_are)

-- a number that passes the tests makes a body whole
pub stored_body_is_whole : (span place n : ℕ) (bytes : List ℕ) → place + 8 ≤ length bytes → 8 ≤ n → n ≤ span
    → place + n ≤ length bytes → n ≡ number_at place bytes → body_is_whole span place bytes ≡ true
stored_body_is_whole span place n bytes head least most fits is = grind (arith, nat_tests)

-- a number that fails one of them doesn't
pub stored_body_is_broken : (span place n : ℕ) (bytes : List ℕ) → n ≡ number_at place bytes
    → ((n < 8) ⊎ (span < n) ⊎ (length bytes < place + n)) → body_is_whole span place bytes ≡ false
stored_body_is_broken span place n bytes number fails = grind (arith, nat_tests)

-- the number that was read, where one was
pub stored_body_number_is_read : (place n : ℕ) (read : Option ℕ) (bytes : List ℕ) → read ≡ Some n → IsNumberRead place read bytes
    → (place + 8 ≤ length bytes) × (n ≡ number_at place bytes)
stored_body_number_is_read place n read bytes is number = subst (λ (o : Option ℕ). IsNumberRead place o bytes) is number
