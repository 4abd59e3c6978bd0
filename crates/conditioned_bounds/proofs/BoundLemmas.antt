-- The three parts of the bound.
use Rattle.std.proofs.Common.{◌≡◌, ℕ, ◌+◌, ◌*◌, ◌≤◌, List, [], ◌∷◌, ◌++◌, length, All, sym, ap, ◌∙◌, arith}
use Rattle.std.proofs.Common.{pos, ◌*ℤ◌, ◌≤ℤ◌}
use Rattle.std.specs.List.{sum_by}
use Rattle.std.proofs.lemmas.Int.{ints}
use Rattle.std.proofs.lemmas.List.Elements.{All-nil, All-cons, All-head, All-tail, All-weaker}
use Rattle.std.proofs.Math.Nat.{add-mul, mul_comm}
use Rattle.prefix_lattice.specs.{RecordValue, PrefixValue, prefix_weight, closest, kept_pairs, conditioned_weight}
use Rattle.prefix_lattice.specs.{HoldsWeight, IsNarrow}
use Rattle.conditioned_bounds.specs.Bounds.{bound_of, prefixes_asked, HoldWeights, AreNarrow}
use Rattle.conditioned_bounds.specs.Bounds.{AreWeights}
use Rattle.conditioned_bounds.proofs.JointWeightLemmas.{joint_weights}
use Rattle.conditioned_bounds.proofs.IntervalSumLemmas.{interval_sum-mono, interval_sum-same, interval_sum-slack}
use Rattle.conditioned_bounds.proofs.IntervalSumLemmas.{interval_sum_high-slack}
use Rattle.conditioned_bounds.proofs.IntervalSumLemmas.{interval_sum_low-slack, interval_sum-difference}

-- the weights of a prefix and of its meets add up to those of its closest lines and its conditioned weight
abbrev pub BoundIsBalanced : PrefixValue → List PrefixValue → List RecordValue → Type 0
BoundIsBalanced p lines rs =
    prefix_weight p rs + joint_weights (kept_pairs (closest p lines)) rs
    ≡ joint_weights (closest p lines) rs + conditioned_weight p lines rs

-- what holds of a list holds of its front and of the rest
bound_all-front : (P : PrefixValue → Type 0) (xs ys : List PrefixValue) → All P (xs ++ ys) → All P xs
bound_all-front P [] ys all = All-nil P
bound_all-front P (x ∷ xs) ys all =
    All-cons P x xs (All-head P x (xs ++ ys) all) (bound_all-front P xs ys (All-tail P x (xs ++ ys) all))

bound_all-rest : (P : PrefixValue → Type 0) (xs ys : List PrefixValue) → All P (xs ++ ys) → All P ys
bound_all-rest P [] ys all = all
bound_all-rest P (x ∷ xs) ys all = bound_all-rest P xs ys (All-tail P x (xs ++ ys) all)

-- what holds of all prefixes asked for holds of the prefix, of its closest lines and of their meets
pub record EachBoundPart (P : PrefixValue → Type 0) (p : PrefixValue) (near shared : List PrefixValue) : Type 0 where
  pub top : P p
  pub lines : All P near
  pub meets : All P shared

pub each_bound_part : (P : PrefixValue → Type 0) (p : PrefixValue) (near meets : List PrefixValue)
    → All P (p ∷ (near ++ meets)) → EachBoundPart P p near meets
each_bound_part P p near meets all =
    let rest : All P (near ++ meets) = All-tail P p (near ++ meets) all in
    record {
      top = All-head P p (near ++ meets) all;
      lines = bound_all-front P near meets rest;
      meets = bound_all-rest P near meets rest;
    }

-- what one interval says of the weight
abbrev HoldsInBound : (PrefixValue → ℕ) → (PrefixValue → ℕ) → List RecordValue → PrefixValue → Type 0
HoldsInBound low high rs q = HoldsWeight (low q) (high q) (prefix_weight q rs)

-- the bound is at least the conditioned weight
pub bound_of-least : (low high : PrefixValue → ℕ) (p : PrefixValue) (lines : List PrefixValue) (rs : List RecordValue)
    → BoundIsBalanced p lines rs → HoldWeights low high rs (prefixes_asked p lines)
    → pos (conditioned_weight p lines rs) ≤ℤ bound_of low high p lines
bound_of-least low high p lines rs balance holds =
    let near = closest p lines in
    let meets = kept_pairs near in
    let held = each_bound_part (HoldsInBound low high rs) p near meets holds in
    let top : prefix_weight p rs ≤ high p = held.top.high in
    let ups : joint_weights meets rs ≤ sum_by high meets =
    interval_sum-mono (λ q. prefix_weight q rs) high meets
    (All-weaker (HoldsInBound low high rs) (λ q. prefix_weight q rs ≤ high q) (λ q h. h.high) meets held.meets) in
    let downs : sum_by low near ≤ joint_weights near rs =
    interval_sum-mono low (λ q. prefix_weight q rs) near
    (All-weaker (HoldsInBound low high rs) (λ q. low q ≤ prefix_weight q rs) (λ q h. h.low) near held.lines) in
    omega (arith, ints)

-- the bound over exact intervals is the conditioned weight
pub bound_of-exact : (low high : PrefixValue → ℕ) (p : PrefixValue) (lines : List PrefixValue) (rs : List RecordValue)
    → BoundIsBalanced p lines rs → AreWeights low high rs (prefixes_asked p lines)
    → bound_of low high p lines ≡ pos (conditioned_weight p lines rs)
bound_of-exact low high p lines rs balance exact =
    let near = closest p lines in
    let meets = kept_pairs near in
    let is_weight = λ (q : PrefixValue). (low q ≡ prefix_weight q rs) × (high q ≡ prefix_weight q rs) in
    let parts = each_bound_part is_weight p near meets exact in
    let top : high p ≡ prefix_weight p rs = parts.top.1 in
    let ups : sum_by high meets ≡ joint_weights meets rs =
    interval_sum-same high (λ q. prefix_weight q rs) meets
    (All-weaker is_weight (λ q. high q ≡ prefix_weight q rs) (λ q h. h.1) meets parts.meets) in
    let downs : sum_by low near ≡ joint_weights near rs =
    interval_sum-same low (λ q. prefix_weight q rs) near
    (All-weaker is_weight (λ q. low q ≡ prefix_weight q rs) (λ q h. h.0) near parts.lines) in
    omega (arith, ints)

-- what one narrow interval says of the weight
abbrev HoldsNarrowlyInBound : (PrefixValue → ℕ) → (PrefixValue → ℕ) → ℕ → ℕ → List RecordValue → PrefixValue → Type 0
HoldsNarrowlyInBound low high times whole rs q = HoldsInBound low high rs q × IsNarrow (low q) (high q) times whole

bound_all-both : (P Q : PrefixValue → Type 0) (qs : List PrefixValue) → All P qs → All Q qs → All (λ q. P q × Q q) qs
bound_all-both P Q [] ps qs = All-nil (λ q. P q × Q q)
bound_all-both P Q (x ∷ xs) ps qs =
    All-cons (λ q. P q × Q q) x xs (All-head P x xs ps, All-head Q x xs qs)
    (bound_all-both P Q xs (All-tail P x xs ps) (All-tail Q x xs qs))

-- the bound over narrow intervals is not far above the conditioned weight
pub bound_of-most : (low high : PrefixValue → ℕ) (p : PrefixValue) (lines : List PrefixValue)
    (rs : List RecordValue) (times whole : ℕ)
    → BoundIsBalanced p lines rs → HoldWeights low high rs (prefixes_asked p lines)
    → AreNarrow low high times whole (prefixes_asked p lines)
    → (pos times *ℤ bound_of low high p lines)
    ≤ℤ pos (times * conditioned_weight p lines rs
    + (1 + length (closest p lines) + length (kept_pairs (closest p lines))) * whole)
bound_of-most low high p lines rs times whole balance holds narrow =
    let near = closest p lines in
    let meets = kept_pairs near in
    let left = conditioned_weight p lines rs in
    let narrowly = HoldsNarrowlyInBound low high times whole rs in
    let parts =
    each_bound_part narrowly p near meets
    (bound_all-both (HoldsInBound low high rs) (λ q. IsNarrow (low q) (high q) times whole) (prefixes_asked p lines) holds narrow) in
    let top : high p * times ≤ prefix_weight p rs * times + whole =
    interval_sum_high-slack (low p) (high p) (prefix_weight p rs) times whole parts.top.0.low parts.top.0.high parts.top.1 in
    let ups : sum_by high meets * times ≤ joint_weights meets rs * times + length meets * whole =
    interval_sum-slack high (λ q. prefix_weight q rs) times whole meets
    (All-weaker narrowly (λ q. high q * times ≤ prefix_weight q rs * times + whole)
    (λ q h. interval_sum_high-slack (low q) (high q) (prefix_weight q rs) times whole h.0.low h.0.high h.1) meets parts.meets) in
    let downs : joint_weights near rs * times ≤ sum_by low near * times + length near * whole =
    interval_sum-slack (λ q. prefix_weight q rs) low times whole near
    (All-weaker narrowly (λ q. prefix_weight q rs * times ≤ low q * times + whole)
    (λ q h. interval_sum_low-slack (low q) (high q) (prefix_weight q rs) times whole h.0.low h.0.high h.1) near parts.lines) in
    let scaled : prefix_weight p rs * times + joint_weights meets rs * times ≡ joint_weights near rs * times + left * times =
    sym (add-mul (prefix_weight p rs) (joint_weights meets rs) times) ∙ ap (λ n. n * times) balance
    ∙ add-mul (joint_weights near rs) left times in
    let all_ups : (high p + sum_by high meets) * times ≡ high p * times + sum_by high meets * times =
    add-mul (high p) (sum_by high meets) times in
    let turned : times * left ≡ left * times = mul_comm times left in
    let slack : (1 + length near + length meets) * whole ≡ whole + length near * whole + length meets * whole =
    add-mul (1 + length near) (length meets) whole
    ∙ ap (λ n. n + length meets * whole) (add-mul 1 (length near) whole ∙ omega arith) in
    let least : pos left ≤ℤ bound_of low high p lines = bound_of-least low high p lines rs balance holds in
    let above : sum_by low near ≤ high p + sum_by high meets = omega (arith, ints) in
    interval_sum-difference times (high p + sum_by high meets) (sum_by low near)
    (times * left + (1 + length near + length meets) * whole) above (omega arith)
