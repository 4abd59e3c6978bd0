-- The weights of prefixes, one record after another.
use Rattle.std.proofs.Common.{◌≡◌, ℕ, ◌+◌, ◌*◌, Bool, true, false, cond, ◌&&◌, not, List, [], ◌∷◌, refl, sym, ap}
use Rattle.std.proofs.Common.{◌∙◌, arith}
use Rattle.std.specs.List.{filter, sum_by}
use Rattle.std.proofs.lemmas.List.Sums.{sum_by-cons}
use Rattle.std.proofs.Math.Nat.{add-mul}
use Rattle.prefix_lattice.specs.{RecordValue, PrefixValue, covers, prefix_weight, lines_under, one_line_covers}
use Rattle.prefix_lattice.specs.{conditioned_weight, covering_count}

-- 1 if a test passes, else 0
abbrev pub joint_weight_mark : Bool → ℕ
joint_weight_mark b = cond b 1 0

-- the weight of the records that pass a test
pub joint_weight-passing : (p : RecordValue → Bool) (r : RecordValue) (rs : List RecordValue)
    → sum_by (λ (x : RecordValue). x.weight) (filter p (r ∷ rs))
    ≡ joint_weight_mark (p r) * r.weight + sum_by (λ (x : RecordValue). x.weight) (filter p rs)
joint_weight-passing p r rs =
    elim (p r) as (λ b. sum_by (λ (x : RecordValue). x.weight) (cond b (r ∷ filter p rs) (filter p rs)) ≡ joint_weight_mark b
    * r.weight + sum_by (λ (x : RecordValue). x.weight) (filter p rs)) [
      | true ↦ omega (arith, sum_by-cons (λ (x : RecordValue). x.weight) r (filter p rs))
      | false ↦ omega arith
    ]

-- the weights of some prefixes, added up
abbrev pub joint_weights : List PrefixValue → List RecordValue → ℕ
joint_weights qs rs = sum_by (λ q. prefix_weight q rs) qs

pub joint_weights-none : (qs : List PrefixValue) → joint_weights qs [] ≡ 0
joint_weights-none [] = refl
joint_weights-none (q ∷ qs) = omega (arith, sum_by-cons (λ q. prefix_weight q []) q qs, joint_weights-none qs)

-- each prefix that covers a record adds its weight
pub joint_weights-cons : (qs : List PrefixValue) (r : RecordValue) (rs : List RecordValue)
    → joint_weights qs (r ∷ rs) ≡ covering_count r qs * r.weight + joint_weights qs rs
joint_weights-cons [] r rs = omega arith
joint_weights-cons (q ∷ qs) r rs =
    let all : joint_weights (q ∷ qs) (r ∷ rs) ≡ prefix_weight q (r ∷ rs) + joint_weights qs (r ∷ rs) =
    sum_by-cons (λ p. prefix_weight p (r ∷ rs)) q qs in
    let rest : joint_weights (q ∷ qs) rs ≡ prefix_weight q rs + joint_weights qs rs = sum_by-cons (λ p. prefix_weight p rs) q qs in
    let first : prefix_weight q (r ∷ rs) ≡ joint_weight_mark (covers q r) * r.weight + prefix_weight q rs = joint_weight-passing (covers q) r rs in
    let count : covering_count r (q ∷ qs) * r.weight ≡ joint_weight_mark (covers q r) * r.weight + covering_count r qs * r.weight =
    ap (λ n. n * r.weight) (sum_by-cons (λ p. joint_weight_mark (covers p r)) q qs)
    ∙ add-mul (joint_weight_mark (covers q r)) (covering_count r qs) r.weight in
    omega (arith, joint_weights-cons qs r rs)

-- whether the prefix covers a record that no line under it covers
abbrev pub is_left_in_joint_weight : PrefixValue → List PrefixValue → RecordValue → Bool
is_left_in_joint_weight p lines r = covers p r && not (one_line_covers (lines_under p lines) r)

-- the prefix and the meets cover a record as often as the closest lines do, and once more if no line under the
-- prefix covers it
abbrev pub JointWeightBalances : PrefixValue → List PrefixValue → List PrefixValue → List PrefixValue → RecordValue → Type 0
JointWeightBalances p lines near meets r =
    joint_weight_mark (covers p r) + covering_count r meets ≡ covering_count r near + joint_weight_mark (is_left_in_joint_weight p lines r)

-- so their weights balance over any records
pub joint_weights_balance : (p : PrefixValue) (lines near meets : List PrefixValue)
    → ((r : RecordValue) → JointWeightBalances p lines near meets r)
    → (rs : List RecordValue) → prefix_weight p rs + joint_weights meets rs ≡ joint_weights near rs + conditioned_weight p lines rs
joint_weights_balance p lines near meets balances [] = omega (arith, joint_weights-none near, joint_weights-none meets)
joint_weights_balance p lines near meets balances (r ∷ rs) =
    let before = joint_weights_balance p lines near meets balances rs in
    let one : prefix_weight p (r ∷ rs) ≡ joint_weight_mark (covers p r) * r.weight + prefix_weight p rs = joint_weight-passing (covers p) r rs in
    let left : conditioned_weight p lines (r ∷ rs)
    ≡ joint_weight_mark (is_left_in_joint_weight p lines r) * r.weight + conditioned_weight p lines rs =
    joint_weight-passing (is_left_in_joint_weight p lines) r rs in
    let times : joint_weight_mark (covers p r) * r.weight + covering_count r meets * r.weight
    ≡ covering_count r near * r.weight + joint_weight_mark (is_left_in_joint_weight p lines r) * r.weight =
    sym (add-mul (joint_weight_mark (covers p r)) (covering_count r meets) r.weight) ∙ ap (λ n. n * r.weight) (balances r)
    ∙ add-mul (covering_count r near) (joint_weight_mark (is_left_in_joint_weight p lines r)) r.weight in
    omega (arith, joint_weights-cons near r rs, joint_weights-cons meets r rs)
