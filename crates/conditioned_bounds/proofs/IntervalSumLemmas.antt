-- What intervals say of sums of weights.
use Rattle.std.proofs.Common.{◌≡◌, ℕ, ◌+◌, ◌-◌, ◌*◌, ◌≤◌, List, [], ◌∷◌, length, All, refl, ap, ◌∙◌, arith, ℤ, pos}
use Rattle.std.proofs.Common.{negsuc, ◌-ℤ◌, ◌*ℤ◌, ◌≤ℤ◌}
use Rattle.std.specs.List.{sum_by}
use Rattle.std.proofs.lemmas.List.Sums.{sum_by-cons}
use Rattle.std.proofs.lemmas.List.Elements.{All-head, All-tail}
use Rattle.std.proofs.lemmas.Nat.{mul-le}
use Rattle.std.proofs.lemmas.Int.{ints}
use Rattle.std.proofs.Math.Nat.{add-mul, mul_comm}
use Rattle.prefix_lattice.specs.{PrefixValue}

-- a sum of numbers that are nowhere greater
pub interval_sum-mono : (f g : PrefixValue → ℕ) (qs : List PrefixValue) → All (λ q. f q ≤ g q) qs → sum_by f qs ≤ sum_by g qs
interval_sum-mono f g [] all = omega arith
interval_sum-mono f g (q ∷ qs) all =
    let first : f q ≤ g q = All-head (λ p. f p ≤ g p) q qs all in
    omega (arith, sum_by-cons f q qs, sum_by-cons g q qs, interval_sum-mono f g qs (All-tail (λ p. f p ≤ g p) q qs all))

-- a sum of the same numbers
pub interval_sum-same : (f g : PrefixValue → ℕ) (qs : List PrefixValue) → All (λ q. f q ≡ g q) qs → sum_by f qs ≡ sum_by g qs
interval_sum-same f g [] all = refl
interval_sum-same f g (q ∷ qs) all =
    let first : f q ≡ g q = All-head (λ p. f p ≡ g p) q qs all in
    omega (arith, sum_by-cons f q qs, sum_by-cons g q qs, interval_sum-same f g qs (All-tail (λ p. f p ≡ g p) q qs all))

-- a sum of numbers, each of which exceeds another by at most the whole divided by `times`
pub interval_sum-slack : (f g : PrefixValue → ℕ) (times whole : ℕ) (qs : List PrefixValue)
    → All (λ q. f q * times ≤ g q * times + whole) qs
    → sum_by f qs * times ≤ sum_by g qs * times + length qs * whole
interval_sum-slack f g times whole [] all = omega arith
interval_sum-slack f g times whole (q ∷ qs) all =
    let first : f q * times ≤ g q * times + whole = All-head (λ p. f p * times ≤ g p * times + whole) q qs all in
    let fs : sum_by f (q ∷ qs) * times ≡ f q * times + sum_by f qs * times =
    ap (λ n. n * times) (sum_by-cons f q qs) ∙ add-mul (f q) (sum_by f qs) times in
    let gs : sum_by g (q ∷ qs) * times ≡ g q * times + sum_by g qs * times =
    ap (λ n. n * times) (sum_by-cons g q qs) ∙ add-mul (g q) (sum_by g qs) times in
    let more : length (q ∷ qs) * whole ≡ whole + length qs * whole =
    let one : length (q ∷ qs) ≡ 1 + length qs = omega arith in
    ap (λ n. n * whole) one ∙ add-mul 1 (length qs) whole ∙ (omega arith) in
    omega (arith, interval_sum-slack f g times whole qs (All-tail (λ p. f p * times ≤ g p * times + whole) q qs all))

-- the high exceeds the weight by at most the whole divided by `times`
pub interval_sum_high-slack : (low high weight times whole : ℕ) → low ≤ weight → weight ≤ high → (high - low) * times ≤ whole
    → high * times ≤ weight * times + whole
interval_sum_high-slack low high weight times whole least most narrow =
    let parts : high ≡ (high - low) + low = omega arith in
    let split : high * times ≡ (high - low) * times + low * times =
    ap (λ n. n * times) parts ∙ add-mul (high - low) low times in
    omega (arith, mul-le low times weight times least (omega arith))

-- the weight exceeds the low by at most the whole divided by `times`
pub interval_sum_low-slack : (low high weight times whole : ℕ) → low ≤ weight → weight ≤ high → (high - low) * times ≤ whole
    → weight * times ≤ low * times + whole
interval_sum_low-slack low high weight times whole least most narrow =
    let parts : high ≡ (high - low) + low = omega arith in
    let split : high * times ≡ (high - low) * times + low * times =
    ap (λ n. n * times) parts ∙ add-mul (high - low) low times in
    omega (arith, mul-le weight times high times most (omega arith))

-- a difference, multiplied by `times`
pub interval_sum-difference : (times ups downs most : ℕ) → downs ≤ ups → ups * times ≤ downs * times + most
    → (pos times *ℤ (pos ups -ℤ pos downs)) ≤ℤ pos most
interval_sum-difference times ups downs most above within =
    let same : pos ups -ℤ pos downs ≡ pos (ups - downs) = omega (arith, ints) in
    let parts : ups ≡ (ups - downs) + downs = omega arith in
    let split : ups * times ≡ (ups - downs) * times + downs * times =
    ap (λ n. n * times) parts ∙ add-mul (ups - downs) downs times in
    let turned : times * (ups - downs) ≡ (ups - downs) * times = mul_comm times (ups - downs) in
    let few : times * (ups - downs) ≤ most = omega arith in
    rw same (omega (arith, ints))

-- a lower bound of a number, multiplied by `times`
pub interval_sum-reached : (times most least : ℕ) (top : ℤ) → pos least ≤ℤ top → (pos times *ℤ top) ≤ℤ pos most
    → times * least ≤ most
interval_sum-reached times most least (pos n) reached within =
    let fewer : least ≤ n = omega (arith, ints) in
    let more : times * n ≤ most = omega (arith, ints) in
    omega (arith, mul-le times least times n (omega arith) fewer)
interval_sum-reached times most least (negsuc n) reached within = absurd (omega (arith, ints))
