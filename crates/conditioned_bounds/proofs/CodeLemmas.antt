-- The codes of the prefixes that a prefix is strictly under, one node after another.
use Rattle.std.proofs.Common.{◌≡◌, ◌≢◌, ℕ, ◌+◌, ◌*◌, ◌^◌, ◌<◌, ◌≤◌, eqb, Bool, true, false, ◌||◌, not, List, [], ◌∷◌}
use Rattle.std.proofs.Common.{◌++◌, All, AllPairs, Option, Some, refl, sym, ap, ◌∙◌, subst, arith, ◌⊎◌, inl, inr}
use Rattle.std.proofs.Common.{get_or, length, ⊎_elim}
use Rattle.std.proofs.lemmas.List.{get_or_append_left, get_or_push, length_push}
use Rattle.std.specs.List.{list_any}
use Rattle.std.proofs.lemmas.Bool.{false≢true, eqb-true, eq-eqb, ne_eqb, and_parts, and_from, false_from_ne_true}
use Rattle.std.proofs.lemmas.Bool.{cases_lt}
use Rattle.std.proofs.lemmas.List.Folds.{list_any-append, list_any_none}
use Rattle.std.proofs.lemmas.List.Elements.{All-push, All-weaker, All-nil}
use Rattle.prefix_lattice.specs.{node_index, node_at, node_level, node_count, prefix_level, PrefixValue, IsPrefix}
use Rattle.prefix_lattice.specs.{node_of_prefix}
use Rattle.prefix_lattice.specs.{prefix_code}
use Rattle.prefix_lattice.specs.declared.grain.Grain.{Grain}
use Rattle.prefix_lattice.specs.{under, same_as, strictly_under, upper_at}
use Rattle.prefix_lattice.proofs.NodePlaceLemmas.{node_at_own_place, node_place_is_small}
use Rattle.conditioned_bounds.specs.Uppers.{AreUpperCodes}
use Rattle.conditioned_bounds.proofs.UpperLemmas.{UpperKeysHold, upper_key_is_small, upper_node_is_valid}
use Rattle.conditioned_bounds.proofs.UpperLemmas.{same_upper_code}

-- what the laws of the lattice say of prefixes that are under others
pub record CodeOrderHolds : Type 0 where
  pub reflexive : (prefix : PrefixValue) → under prefix prefix ≡ true
  pub antisymmetric : (prefix other : PrefixValue) → under prefix other ≡ true → under other prefix ≡ true
      → prefix ≡ other
  pub level : (lower upper : PrefixValue) → strictly_under lower upper ≡ true
      → prefix_level upper < prefix_level lower
  pub only : (grain : Grain) (lower upper : PrefixValue) → under lower upper ≡ true
      → upper_at lower (node_of_prefix grain upper) ≡ Some upper

-- a prefix that is strictly under another is under it
pub code_above-under : (lower upper : PrefixValue) → strictly_under lower upper ≡ true → under lower upper ≡ true
code_above-under lower upper is = (and_parts (under lower upper) (not (same_as lower upper)) is).0

-- and a prefix that is under one of another node is strictly under it
pub code_above-by_node : CodeOrderHolds → (grain : Grain) (lower upper : PrefixValue) → under lower upper ≡ true
    → node_of_prefix grain lower ≢ node_of_prefix grain upper → strictly_under lower upper ≡ true
code_above-by_node order grain lower upper is differ =
    and_from (under lower upper) (not (same_as lower upper)) is
    (ap not (false_from_ne_true (same_as lower upper) (λ same.
    let both = and_parts (under lower upper) (under upper lower) same in
    differ (ap (node_of_prefix grain) (order.antisymmetric lower upper both.0 both.1)))))

-- a prefix isn't strictly under one of its own node
pub no_code_above_own_node : CodeOrderHolds → (grain : Grain) (lower upper : PrefixValue)
    → node_of_prefix grain lower ≡ node_of_prefix grain upper
    → strictly_under lower upper ≡ false
no_code_above_own_node order grain lower upper same =
    false_from_ne_true (strictly_under lower upper) (λ is.
    let level : prefix_level lower ≡ prefix_level upper = ap node_level same in
    omega (arith, order.level lower upper is, level))

-- a relation of each pair, and of each element with an appended one, holds of each pair after the append
pub AllPairs-push_code : {X : Type 0} (R : X → X → Type 0) (xs : List X) (y : X) → AllPairs R xs → All (λ x. R x y) xs
    → AllPairs R (xs ++ y ∷ [])
AllPairs-push_code {X} R xs y pairs all = λ i j d before within.
    let few : j < length xs + 1 = omega (arith, within, length_push xs y) in
    let first : get_or xs i d ≡ get_or (xs ++ y ∷ []) i d =
    sym (get_or_append_left xs (y ∷ []) d i (omega (arith, before, few))) in
    subst (λ x. R x (get_or (xs ++ y ∷ []) j d)) first
    (⊎_elim
    (λ (inside : j < length xs).
    subst (R (get_or xs i d)) (sym (get_or_append_left xs (y ∷ []) d j inside)) (pairs i j d before inside))
    (λ (past : length xs ≤ j).
    let end : length xs ≡ j = omega arith in
    subst (R (get_or xs i d)) (sym (get_or_push xs y d j end)) (all i d (omega (arith, before, end))))
    (cases_lt j (length xs)))

-- the codes of the prefixes above at the nodes before an index
pub record CodesBefore (grain : Grain) (prefix : PrefixValue) (place : ℕ) (codes : List ℕ) : Type 0 where
  pub small : All (λ code. code < place * 2 ^ 64) codes
  pub distinct : AllPairs (λ code other. code ≢ other) codes
  pub members : (upper : PrefixValue) → IsPrefix grain upper → node_index (node_of_prefix grain upper) < place
      → list_any (λ code. eqb code (prefix_code grain upper)) codes ≡ strictly_under prefix upper

-- none before the first
pub codes_none : (grain : Grain) (prefix : PrefixValue) → CodesBefore grain prefix 0 []
codes_none grain prefix = record {
  small = All-nil (λ code. code < 0 * 2 ^ 64);
  distinct = λ i j d before within. absurd (omega arith);
  members = λ upper is before. absurd (omega arith);
}

-- codes below a number are not that number
codes_below_never_reach : (codes : List ℕ) (bound code : ℕ) → All (λ c. c < bound) codes → bound ≤ code
    → list_any (λ c. eqb c code) codes ≡ false
codes_below_never_reach codes bound code small above =
    list_any_none (λ c. eqb c code) codes
    (All-weaker (λ c. c < bound) (λ c. eqb c code ≡ false)
    (λ c below. ne_eqb c code (λ same. omega (arith, below, above, same))) codes small)

-- a node at which the prefix is strictly under none
pub codes_skip : (grain : Grain) (prefix : PrefixValue) (place : ℕ) (codes : List ℕ)
    → CodesBefore grain prefix place codes
    → ((upper : PrefixValue) → IsPrefix grain upper → node_of_prefix grain upper ≡ node_at grain place
    → strictly_under prefix upper ≡ false)
    → CodesBefore grain prefix (place + 1) codes
codes_skip grain prefix place codes before none = record {
  small =
      All-weaker (λ code. code < place * 2 ^ 64) (λ code. code < (place + 1) * 2 ^ 64)
      (λ code below. omega (arith, below)) codes before.small;
  distinct = before.distinct;
  members = λ upper is less. by upper is (cases_lt (node_index (node_of_prefix grain upper)) place) less;
}
  where
    by : (upper : PrefixValue) → IsPrefix grain upper
        → (node_index (node_of_prefix grain upper) < place) ⊎ (place ≤ node_index (node_of_prefix grain upper))
        → node_index (node_of_prefix grain upper) < place + 1
        → list_any (λ code. eqb code (prefix_code grain upper)) codes ≡ strictly_under prefix upper
    by upper is (inl less) _ = before.members upper is less
    by upper is (inr not_less) less =
        let at : node_index (node_of_prefix grain upper) ≡ place = omega arith in
        codes_below_never_reach codes (place * 2 ^ 64) (prefix_code grain upper) before.small (omega (arith, at))
        ∙ sym (none upper is (sym (node_at_own_place (node_of_prefix grain upper) (upper_node_is_valid upper is))
        ∙ ap (node_at grain) at))

-- a node at which the prefix is strictly under one
pub codes_add : UpperKeysHold → CodeOrderHolds → (grain : Grain) (prefix : PrefixValue) (place : ℕ) (codes : List ℕ)
    (upper : PrefixValue)
    → CodesBefore grain prefix place codes → IsPrefix grain upper → node_index (node_of_prefix grain upper) ≡ place
    → strictly_under prefix upper ≡ true
    → CodesBefore grain prefix (place + 1) (codes ++ prefix_code grain upper ∷ [])
codes_add keys order grain prefix place codes upper before upper_is at is =
    let small = upper_key_is_small keys upper upper_is in
    let low : place * 2 ^ 64 ≤ prefix_code grain upper = omega (arith, at) in
    let high : prefix_code grain upper < (place + 1) * 2 ^ 64 = omega (arith, at, small) in
    record {
      small =
          All-push (λ code. code < (place + 1) * 2 ^ 64) codes (prefix_code grain upper)
          (All-weaker (λ code. code < place * 2 ^ 64) (λ code. code < (place + 1) * 2 ^ 64)
          (λ code below. omega (arith, below)) codes before.small) high;
      distinct =
          AllPairs-push_code (λ code other. code ≢ other) codes (prefix_code grain upper) before.distinct
          (All-weaker (λ code. code < place * 2 ^ 64) (λ code. code ≢ prefix_code grain upper)
          (λ code below same. omega (arith, below, low, same)) codes before.small);
      members = λ other other_is less.
          list_any-append (λ code. eqb code (prefix_code grain other)) codes (prefix_code grain upper ∷ [])
          ∙ by other other_is (cases_lt (node_index (node_of_prefix grain other)) place) less low;
    }
  where
    or_false : (a b : Bool) → a ≡ false → (a || (b || false)) ≡ b
    or_false true b is = absurd (false≢true (sym is))
    or_false false true is = refl
    or_false false false is = refl

    or_other : (a b : Bool) → b ≡ false → (a || (b || false)) ≡ a
    or_other true b is = refl
    or_other false true is = is
    or_other false false is = refl

    same_truth : (a b : Bool) → (a ≡ true → b ≡ true) → (b ≡ true → a ≡ true) → a ≡ b
    same_truth true b to from = sym (to refl)
    same_truth false true to from = from refl
    same_truth false false to from = refl

    some-injective : (x y : PrefixValue) → ◌≡◌ {A = Option PrefixValue} (Some x) (Some y) → x ≡ y
    some-injective x y same = cc

    by : (other : PrefixValue) → IsPrefix grain other
        → (node_index (node_of_prefix grain other) < place) ⊎ (place ≤ node_index (node_of_prefix grain other))
        → node_index (node_of_prefix grain other) < place + 1 → place * 2 ^ 64 ≤ prefix_code grain upper
        → (list_any (λ code. eqb code (prefix_code grain other)) codes || (eqb (prefix_code grain upper)
        (prefix_code grain other) || false))
        ≡ strictly_under prefix other
    by other other_is (inl less) _ low =
        let small = upper_key_is_small keys other other_is in
        or_other (list_any (λ code. eqb code (prefix_code grain other)) codes) (eqb (prefix_code grain upper)
        (prefix_code grain other))
        (ne_eqb (prefix_code grain upper) (prefix_code grain other) (λ same. omega (arith, small, less, low, same)))
        ∙ before.members other other_is less
    by other other_is (inr not_less) less low =
        let here : node_index (node_of_prefix grain other) ≡ place = omega arith in
        or_false (list_any (λ code. eqb code (prefix_code grain other)) codes) (eqb (prefix_code grain upper)
        (prefix_code grain other))
        (codes_below_never_reach codes (place * 2 ^ 64) (prefix_code grain other) before.small (omega (arith, here)))
        ∙ same_truth (eqb (prefix_code grain upper) (prefix_code grain other)) (strictly_under prefix other)
        (λ same.
        subst (λ p. strictly_under prefix p ≡ true)
        (same_upper_code keys upper other upper_is other_is (eqb-true (prefix_code grain upper)
        (prefix_code grain other) same)) is)
        (λ is_other.
        let node : node_of_prefix grain upper ≡ node_of_prefix grain other =
        sym (node_at_own_place (node_of_prefix grain upper) (upper_node_is_valid upper upper_is))
        ∙ ap (node_at grain) (at ∙ sym here)
        ∙ node_at_own_place (node_of_prefix grain other) (upper_node_is_valid other other_is) in
        let one : upper ≡ other =
        some-injective upper other
        (sym (order.only grain prefix upper (code_above-under prefix upper is)) ∙ ap (upper_at prefix) node
        ∙ order.only grain prefix other (code_above-under prefix other is_other)) in
        eq-eqb (prefix_code grain upper) (prefix_code grain other) (ap (prefix_code grain) one))

-- after the last node they are all
pub codes_all : (grain : Grain) (prefix : PrefixValue) (codes : List ℕ)
    → CodesBefore grain prefix (node_count grain) codes
    → AreUpperCodes grain prefix codes
codes_all grain prefix codes before = record {
  distinct = before.distinct;
  members = λ upper is. before.members upper is (node_place_is_small (node_of_prefix grain upper)
      (upper_node_is_valid upper is));
}
