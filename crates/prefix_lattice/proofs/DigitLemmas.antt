-- Digits of a number and the number that digits spell.
use Rattle.std.proofs.Common.{◌≡◌, ℕ, ◌+◌, ◌*◌, ◌/◌, ◌%◌, ◌^◌, ◌<◌, ◌≤◌, zero, suc, List, [], ◌∷◌, ◌++◌, length}
use Rattle.std.proofs.Common.{take, get_or, refl, sym, ap, ◌∙◌, arith, subst, length-append, take_all}
use Rattle.std.proofs.lemmas.List.{take-append-le}
use Rattle.std.proofs.lemmas.Nat.{div-add-mod', div-mul-add}
use Rattle.std.proofs.Math.Nat.{pow-zero, pow-suc, pow-succ', div-one, div-div-eq-div-mul, div-lt_iff_lt-mul}
use Rattle.std.proofs.Math.Nat.{mul-le-mul_right, mul_assoc}
use Rattle.prefix_lattice.specs.Address.{digits, number_from}

-- there are as many digits as requested
pub length-digits : (base count number : ℕ) → length (digits base count number) ≡ count
length-digits base zero number = refl
length-digits base (suc count) number =
    omega (
      arith,
      length-append (digits base count (number / base)) (number % base ∷ []),
      length-digits base count (number / base),
    )

-- one more digit at the end
digits-one_more : (base high digit : ℕ) (front : List ℕ)
    → number_from base high (front ++ digit ∷ []) ≡ number_from base high front * base + digit
digits-one_more base high digit [] = refl
digits-one_more base high digit (d ∷ front) = digits-one_more base (high * base + d) digit front

-- a number is spelled by its digits
pub digits-read_back : (base count number : ℕ) → 0 < base → number < base ^ count
    → number_from base 0 (digits base count number) ≡ number
digits-read_back base zero number has_base small = omega (arith, pow-zero base)
digits-read_back base (suc count) number has_base small =
    let smaller : number / base < base ^ count =
    (div-lt_iff_lt-mul has_base).1 (subst (λ bound. number < bound) (pow-suc base count) small) in
    digits-one_more base 0 (number % base) (digits base count (number / base))
    ∙ ap (λ high. high * base + number % base) (digits-read_back base count (number / base) has_base smaller)
    ∙ div-add-mod' number base

-- the first digits are those of the number without its last digits
pub take-digits : (base n k number : ℕ) → take n (digits base (n + k) number) ≡ digits base n (number / base ^ k)
take-digits base n zero number =
    let all : n + 0 ≡ n = omega arith in
    let whole : number / base ^ 0 ≡ number = ap (λ unit. number / unit) (pow-zero base) ∙ div-one number in
    ap (λ m. take n (digits base m number)) all
    ∙ take_all n (digits base n number) (omega (arith, length-digits base n number))
    ∙ ap (digits base n) (sym whole)
take-digits base n (suc k) number =
    let one_more : n + suc k ≡ suc (n + k) = omega arith in
    let higher : number / base / base ^ k ≡ number / base ^ suc k =
    div-div-eq-div-mul number base (base ^ k) ∙ ap (λ m. number / m) (sym (pow-succ' base k)) in
    ap (λ m. take n (digits base m number)) one_more
    ∙ take-append-le n (digits base (n + k) (number / base)) (number % base ∷ [])
    (omega (arith, length-digits base (n + k) (number / base)))
    ∙ take-digits base n k (number / base)
    ∙ ap (digits base n) higher

-- a bound on each number of a list and on one more number bounds the longer list
digits_small-push : (bound y : ℕ) (xs : List ℕ) (place : ℕ) → 0 < bound → ((k : ℕ) → get_or xs k 0 < bound) → y < bound
    → get_or (xs ++ y ∷ []) place 0 < bound
digits_small-push bound y [] zero has_bound small y_small = y_small
digits_small-push bound y [] (suc place) has_bound small y_small = has_bound
digits_small-push bound y (x ∷ xs) zero has_bound small y_small = small 0
digits_small-push bound y (x ∷ xs) (suc place) has_bound small y_small =
    digits_small-push bound y xs place has_bound (λ k. small (suc k)) y_small

-- each digit is below the base
pub digits_small : (base count number place : ℕ) → 0 < base → get_or (digits base count number) place 0 < base
digits_small base zero number place has_base = has_base
digits_small base (suc count) number place has_base =
    digits_small-push base (number % base) (digits base count (number / base)) place has_base
    (λ k. digits_small base count (number / base) k has_base) (omega arith)

-- two lists of digits below the base that have the same length and spell the same number are the same
pub same_digits : (base high other : ℕ) (xs ys : List ℕ) → length xs ≡ length ys
    → ((place : ℕ) → get_or xs place 0 < base) → ((place : ℕ) → get_or ys place 0 < base)
    → number_from base high xs ≡ number_from base other ys → (high ≡ other) × (xs ≡ ys)
same_digits base high other [] [] same_length xs_small ys_small same = (same, refl)
same_digits base high other [] (y ∷ ys) same_length xs_small ys_small same = absurd (omega arith)
same_digits base high other (x ∷ xs) [] same_length xs_small ys_small same = absurd (omega arith)
same_digits base high other (x ∷ xs) (y ∷ ys) same_length xs_small ys_small same =
    let rest : (high * base + x ≡ other * base + y) × (xs ≡ ys) =
    same_digits base (high * base + x) (other * base + y) xs ys (omega arith) (λ place. xs_small (suc place))
    (λ place. ys_small (suc place)) same in
    let x_small : x < base = xs_small 0 in
    let y_small : y < base = ys_small 0 in
    let same_high : high ≡ other =
    sym (div-mul-add high base x x_small) ∙ ap (λ n. n / base) rest.0 ∙ div-mul-add other base y y_small in
    let same_first : x ≡ y = omega (arith, rest.0, ap (λ h. h * base) same_high) in
    (same_high, ap (λ d. d ∷ xs) same_first ∙ ap (λ l. y ∷ l) rest.1)

-- digits below the base spell a number below a power of it
pub digits_stay_below_power : (base high : ℕ) (xs : List ℕ) → ((place : ℕ) → get_or xs place 0 < base)
    → number_from base high xs < (high + 1) * base ^ length xs
digits_stay_below_power base high [] small = subst (λ unit. high < (high + 1) * unit) (sym (pow-zero base)) (omega arith)
digits_stay_below_power base high (x ∷ xs) small =
    let rest : number_from base (high * base + x) xs < (high * base + x + 1) * base ^ length xs =
    digits_stay_below_power base (high * base + x) xs (λ place. small (suc place)) in
    let x_small : x < base = small 0 in
    let step : high * base + x + 1 ≤ (high + 1) * base = omega arith in
    let wider : (high * base + x + 1) * base ^ length xs ≤ (high + 1) * base * base ^ length xs =
    mul-le-mul_right (base ^ length xs) step in
    let regrouped : (high + 1) * base ^ suc (length xs) ≡ (high + 1) * base * base ^ length xs =
    ap (λ p. (high + 1) * p) (pow-succ' base (length xs)) ∙ sym (mul_assoc (high + 1) base (base ^ length xs)) in
    omega (arith, rest, wider, regrouped)
