-- Addresses and their leading bits.
use Rattle.std.proofs.Common.{◌≡◌, ℕ, ◌+◌, ◌-◌, ◌*◌, ◌/◌, ◌^◌, ◌<◌, ◌≤◌, eqb, Bool, true, false, zero, suc, List}
use Rattle.std.proofs.Common.{[], ◌∷◌, length, take, get_or, refl, sym, ap, ◌∙◌, arith, subst}
use Rattle.std.proofs.lemmas.Bool.{false≢true, eqb-true, eq-eqb, and_parts, and_from}
use Rattle.std.proofs.lemmas.Nat.{pow-add}
use Rattle.std.proofs.Math.Nat.{pow-zero, pow-suc, div-lt_iff_lt-mul, mul-div_cancel, mul-lt-mul_of_pos_right}
use Rattle.std.proofs.Math.Nat.{div-mul-le_self}
use Rattle.prefix_lattice.specs.Address.{digits, number_from, address_bits, address_of}
use Rattle.prefix_lattice.specs.KeptBits.{begins_with, AreLeadingBits}
use Rattle.prefix_lattice.proofs.DigitLemmas.{length-digits, digits-read_back, take-digits, digits_small}
use Rattle.prefix_lattice.proofs.DigitLemmas.{same_digits, digits_stay_below_power}
use Rattle.prefix_lattice.proofs.ListFrontLemmas.{list_front-taken, longer_list_is_no_front}

-- the first bits of an address are the digits of its high part
pub address_bits-are_digits : (n address : ℕ) → n ≤ 32 → take n (address_bits address) ≡ digits 2 n (address / 2 ^ (32 - n))
address_bits-are_digits n address few =
    let whole : n + (32 - n) ≡ 32 = omega arith in
    ap (λ m. take n (digits 2 m address)) (sym whole) ∙ take-digits 2 n (32 - n) address

pub address_front-length : (n address : ℕ) → n ≤ 32 → length (take n (address_bits address)) ≡ n
address_front-length n address few = ap length (address_bits-are_digits n address few) ∙ length-digits 2 n (address / 2 ^ (32 - n))

-- the first bytes of an address are leading bits
pub address_front_is_leading : (n address : ℕ) → n ≤ 32 → AreLeadingBits (take n (address_bits address))
address_front_is_leading n address few = record {
  few = omega (arith, address_front-length n address few);
  bits = λ place.
      subst (λ l. get_or l place 0 < 2) (sym (address_bits-are_digits n address few))
      (digits_small 2 n (address / 2 ^ (32 - n)) place (omega arith));
}

-- the two parts of an address together have four bits
address_parts_have_four_bytes : (n : ℕ) → n ≤ 32 → 2 ^ n * 2 ^ (32 - n) ≡ 2 ^ 32
address_parts_have_four_bytes n few =
    let whole : n + (32 - n) ≡ 32 = omega arith in
    sym (pow-add 2 n (32 - n)) ∙ ap (λ m. 2 ^ m) whole

pub address_unit_is_positive : (k : ℕ) → 0 < 2 ^ k
address_unit_is_positive zero = omega (arith, pow-zero 2)
address_unit_is_positive (suc k) = omega (arith, pow-suc 2 k, address_unit_is_positive k)

-- the high part of an address has at most one digit for each byte kept
address_high_part_is_small : (n address : ℕ) → n ≤ 32 → address < 2 ^ 32 → address / 2 ^ (32 - n) < 2 ^ n
address_high_part_is_small n address few small =
    (div-lt_iff_lt-mul (address_unit_is_positive (32 - n))).1 (subst (λ bound. address < bound) (sym (address_parts_have_four_bytes n few)) small)

-- the address of the first bits of an address is that address with the others set to zero
pub address_of-leading : (n address : ℕ) → n ≤ 32 → address < 2 ^ 32
    → address_of (take n (address_bits address)) ≡ address / 2 ^ (32 - n) * 2 ^ (32 - n)
address_of-leading n address few small =
    let high = address / 2 ^ (32 - n) in
    let spelled : number_from 2 0 (take n (address_bits address)) ≡ high =
    ap (number_from 2 0) (address_bits-are_digits n address few)
    ∙ digits-read_back 2 n high (omega arith) (address_high_part_is_small n address few small) in
    ap (λ m. number_from 2 0 (take n (address_bits address)) * 2 ^ (32 - m)) (address_front-length n address few)
    ∙ ap (λ m. m * 2 ^ (32 - n)) spelled

-- the address of leading bits is an address
pub address_of-small : (front : List ℕ) → AreLeadingBits front → address_of front < 2 ^ 32
address_of-small front leading =
    let n = length front in
    let number : number_from 2 0 front < 2 ^ n = omega (arith, digits_stay_below_power 2 0 front leading.bits) in
    subst (λ bound. address_of front < bound) (address_parts_have_four_bytes n leading.few) (mul-lt-mul_of_pos_right number (address_unit_is_positive (32 - n)))

-- two lists of leading bits of the same length that spell the same address are the same
pub address_tells_leading_bits : (xs ys : List ℕ) → AreLeadingBits xs → AreLeadingBits ys → length xs ≡ length ys
    → address_of xs ≡ address_of ys → xs ≡ ys
address_tells_leading_bits xs ys xs_leading ys_leading same_length same =
    let unit = 2 ^ (32 - length xs) in
    let numbers : number_from 2 0 xs * unit ≡ number_from 2 0 ys * unit =
    same ∙ ap (λ m. number_from 2 0 ys * 2 ^ (32 - m)) (sym same_length) in
    let has_unit : 0 < unit = address_unit_is_positive (32 - length xs) in
    let spelled : number_from 2 0 xs ≡ number_from 2 0 ys =
    sym (mul-div_cancel (number_from 2 0 xs) has_unit) ∙ ap (λ m. m / unit) numbers
    ∙ mul-div_cancel (number_from 2 0 ys) has_unit in
    (same_digits 2 0 0 xs ys same_length xs_leading.bits ys_leading.bits spelled).1

-- two tests that imply each other are equal
pub address_tests_agree : (a b : Bool) → (a ≡ true → b ≡ true) → (b ≡ true → a ≡ true) → a ≡ b
address_tests_agree true b to from = sym (to refl)
address_tests_agree false true to from = from refl
address_tests_agree false false to from = refl

-- a list begins with its own front
pub begins_with-address_front : (bytes front : List ℕ) → take (length front) bytes ≡ front → begins_with bytes front ≡ true
begins_with-address_front bytes [] same = refl
begins_with-address_front [] (b ∷ front) same = cc
begins_with-address_front (x ∷ bytes) (b ∷ front) same =
    let heads : x ≡ b = cc in
    let tails : take (length front) bytes ≡ front = cc in
    and_from (eqb x b) (begins_with bytes front) (eq-eqb x b heads) (begins_with-address_front bytes front tails)

-- what a list begins with is its front
pub address_front-from_begins_with : (bytes front : List ℕ) → begins_with bytes front ≡ true → take (length front) bytes ≡ front
address_front-from_begins_with bytes [] begins = refl
address_front-from_begins_with [] (b ∷ front) begins = absurd (false≢true begins)
address_front-from_begins_with (x ∷ bytes) (b ∷ front) begins =
    let both : (eqb x b ≡ true) × (begins_with bytes front ≡ true) =
    and_parts (eqb x b) (begins_with bytes front) begins in
    ap (λ d. d ∷ take (length front) bytes) (eqb-true x b both.0)
    ∙ ap (λ l. b ∷ l) (address_front-from_begins_with bytes front both.1)

-- setting the last bits to zero leaves the first ones
pub address_front-masked : (n address : ℕ) → n ≤ 32
    → take n (address_bits (address / 2 ^ (32 - n) * 2 ^ (32 - n))) ≡ take n (address_bits address)
address_front-masked n address few =
    let unit = 2 ^ (32 - n) in
    address_bits-are_digits n (address / unit * unit) few
    ∙ ap (digits 2 n) (mul-div_cancel (address / unit) (address_unit_is_positive (32 - n)))
    ∙ sym (address_bits-are_digits n address few)

-- an address with its last bits set to zero is still an address
pub masked_address_is_small : (n address : ℕ) → address < 2 ^ 32 → address / 2 ^ (32 - n) * 2 ^ (32 - n) < 2 ^ 32
masked_address_is_small n address small = omega (arith, div-mul-le_self address (2 ^ (32 - n)))

-- an address whose last bytes are zero is the address of its own first bits
pub address_of-masked : (n address : ℕ) → n ≤ 32 → address < 2 ^ 32
    → address_of (take n (address_bits (address / 2 ^ (32 - n) * 2 ^ (32 - n))))
    ≡ address / 2 ^ (32 - n) * 2 ^ (32 - n)
address_of-masked n address few small =
    ap address_of (address_front-masked n address few) ∙ address_of-leading n address few small

-- an address begins with the first bytes of another, whose last bits are zero, exactly where it equals the other
-- once its last bits are set to zero too
pub begins_with-masked_address : (n address other : ℕ) → n ≤ 32 → address < 2 ^ 32 → other < 2 ^ 32
    → address_of (take n (address_bits other)) ≡ other
    → begins_with (address_bits address) (take n (address_bits other))
    ≡ eqb (address / 2 ^ (32 - n) * 2 ^ (32 - n)) other
begins_with-masked_address n address other few small other_small masked =
    let unit = 2 ^ (32 - n) in
    let front = take n (address_bits other) in
    let as_many : take (length front) (address_bits address) ≡ take n (address_bits address) =
    ap (λ m. take m (address_bits address)) (address_front-length n other few) in
    address_tests_agree (begins_with (address_bits address) front) (eqb (address / unit * unit) other)
    (λ begins. eq-eqb (address / unit * unit) other
    (sym (address_of-leading n address few small)
    ∙ ap address_of (sym as_many ∙ address_front-from_begins_with (address_bits address) front begins)
    ∙ masked))
    (λ same. begins_with-address_front (address_bits address) front
    (as_many ∙ sym (address_front-masked n address few)
    ∙ ap (λ m. take n (address_bits m)) (eqb-true (address / unit * unit) other same)))

-- the first n bits of an address begin with the first m of another, m at most n, exactly where the address does
pub address_front-begins_with : (n m address other : ℕ) → m ≤ n → n ≤ 32
    → begins_with (take n (address_bits address)) (take m (address_bits other))
    ≡ begins_with (address_bits address) (take m (address_bits other))
address_front-begins_with n m address other fewer few =
    list_front-taken (address_bits address) (take m (address_bits other)) n
    (omega (arith, address_front-length m other (omega arith)))

-- the first n bytes of an address don't begin with more than n bits of another
pub address_front-begins_no_more : (n m address other : ℕ) → n < m → m ≤ 32
    → begins_with (take n (address_bits address)) (take m (address_bits other)) ≡ false
address_front-begins_no_more n m address other more few =
    longer_list_is_no_front (take n (address_bits address)) (take m (address_bits other))
    (omega (arith, address_front-length n address (omega arith), address_front-length m other few))
