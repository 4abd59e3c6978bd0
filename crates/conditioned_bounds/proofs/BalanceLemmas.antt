-- A record is covered by the closest lines and the meets of their kept pairs in balance.
use Rattle.std.proofs.Common.{◌≡◌, ◌+◌, ◌≤◌, Bool, true, false, cond, ◌&&◌, not, List, [], ◌∷◌, None, Some, refl}
use Rattle.std.proofs.Common.{ap, ◌∙◌, ⊎_elim, arith}
use Rattle.std.specs.List.{filter_map, cons_option, count_by, list_any}
use Rattle.std.proofs.lemmas.List.Sums.{sum_by-cons}
use Rattle.std.proofs.lemmas.List.Folds.{list_any-append}
use Rattle.std.proofs.lemmas.Bool.{cases_Bool, or_parts, or_from, or_cases, and_parts, and_right, not_from_true}
use Rattle.std.proofs.lemmas.Bool.{not_from_false, both_ways, false_from_ne_true, false≢true}
use Rattle.prefix_lattice.specs.{RecordValue, PrefixValue, covers, under, same_as, strictly_under, meet}
use Rattle.prefix_lattice.specs.{lines_under, one_line_covers, closest, covering_count, pair_meet}
use Rattle.prefix_lattice.specs.{unless_third}
use Rattle.prefix_lattice.specs.{under_third, pair_meets, kept_pairs, ObeyStaircase}
use Rattle.conditioned_bounds.proofs.JointWeightLemmas.{joint_weight_mark, is_left_in_joint_weight, JointWeightBalances}

-- what is under a prefix covers no more than it
abbrev pub BalanceCoveringGoesUp : Type 0
BalanceCoveringGoesUp =
    (lower upper : PrefixValue) (r : RecordValue) → under lower upper ≡ true → covers lower r ≡ true
    → covers upper r ≡ true

-- a meet is under the first of its two prefixes
abbrev pub BalanceMeetsAreUnder : Type 0
BalanceMeetsAreUnder = (first second m : PrefixValue) → meet first second ≡ Some m → under m first ≡ true

-- at least one passes a test
pub balance_count-some : (p : PrefixValue → Bool) (qs : List PrefixValue) → list_any p qs ≡ true → 1 ≤ count_by p qs
balance_count-some p [] any = absurd (false≢true any)
balance_count-some p (q ∷ qs) any =
    ⊎_elim
    (λ first. let one : joint_weight_mark (p q) ≡ 1 = ap joint_weight_mark first in omega (arith, sum_by-cons (λ x. joint_weight_mark (p x)) q qs))
    (λ later. omega (arith, sum_by-cons (λ x. joint_weight_mark (p x)) q qs, balance_count-some p qs later))
    (or_cases (p q) (list_any p qs) any)

-- none passes a test
pub balance_count-none : (p : PrefixValue → Bool) (qs : List PrefixValue) → list_any p qs ≡ false → count_by p qs ≡ 0
balance_count-none p [] none = refl
balance_count-none p (q ∷ qs) none =
    let parts : (p q ≡ false) × (list_any p qs ≡ false) = or_parts (p q) (list_any p qs) none in
    let zero_first : joint_weight_mark (p q) ≡ 0 = ap joint_weight_mark parts.0 in
    omega (arith, sum_by-cons (λ x. joint_weight_mark (p x)) q qs, balance_count-none p qs parts.1)

-- no meet of a prefix that doesn't cover a record covers it
balance_first_meets-none : BalanceCoveringGoesUp → BalanceMeetsAreUnder
    → (all : List PrefixValue) (first : PrefixValue) (r : RecordValue) → covers first r ≡ false
    → (rest : List PrefixValue) → one_line_covers (filter_map (pair_meet all first) rest) r ≡ false
balance_first_meets-none up lower all first r none [] = refl
balance_first_meets-none up lower all first r none (second ∷ rest) =
    (elim (meet first second) as
    (λ o. meet first second ≡ o
    → one_line_covers (cons_option (unless_third all first second o) (filter_map (pair_meet all first) rest)) r
    ≡ false) [
      | None ↦ λ is. balance_first_meets-none up lower all first r none rest
      | Some m ↦ λ is.
          let apart : covers m r ≡ false =
          false_from_ne_true (covers m r)
          (λ yes. both_ways (covers first r) none (up m first r (lower first second m is) yes)) in
          elim (under_third all first second m) as
          (λ b. one_line_covers (cons_option (cond b None (Some m)) (filter_map (pair_meet all first) rest)) r ≡ false) [
            | true ↦ balance_first_meets-none up lower all first r none rest
            | false ↦
                or_from (covers m r) (one_line_covers (filter_map (pair_meet all first) rest) r) apart
                (balance_first_meets-none up lower all first r none rest)
          ]
    ]) refl

-- where no member covers a record, no meet does
pub balance_meets-none : BalanceCoveringGoesUp → BalanceMeetsAreUnder
    → (all : List PrefixValue) (r : RecordValue) (firsts : List PrefixValue)
    → one_line_covers firsts r ≡ false → one_line_covers (pair_meets all firsts) r ≡ false
balance_meets-none up lower all r [] none = refl
balance_meets-none up lower all r (first ∷ rest) none =
    let parts : (covers first r ≡ false) × (one_line_covers rest r ≡ false) =
    or_parts (covers first r) (one_line_covers rest r) none in
    list_any-append (λ q. covers q r) (filter_map (pair_meet all first) rest) (pair_meets all rest)
    ∙ or_from (one_line_covers (filter_map (pair_meet all first) rest) r) (one_line_covers (pair_meets all rest) r)
    (balance_first_meets-none up lower all first r parts.0 rest) (balance_meets-none up lower all r rest parts.1)

-- a prefix covers what a line under it covers
pub balance_lines-covers : BalanceCoveringGoesUp → (p : PrefixValue) (r : RecordValue) (lines : List PrefixValue)
    → one_line_covers (lines_under p lines) r ≡ true → covers p r ≡ true
balance_lines-covers up p r [] any = absurd (false≢true any)
balance_lines-covers up p r (line ∷ lines) any =
    (elim (strictly_under line p) as
    (λ b. strictly_under line p ≡ b → one_line_covers (cond b (line ∷ lines_under p lines) (lines_under p lines)) r
    ≡ true → covers p r ≡ true) [
      | true ↦ λ is found. ⊎_elim
          (λ first. up line p r (and_parts (under line p) (not (same_as line p)) is).0 first)
          (λ later. balance_lines-covers up p r lines later)
          (or_cases (covers line r) (one_line_covers (lines_under p lines) r) found)
      | false ↦ λ is found. balance_lines-covers up p r lines found
    ]) refl any

-- a record is in balance where the closest lines cover it if any line does, and obey the law of the staircase
pub balances : BalanceCoveringGoesUp → BalanceMeetsAreUnder → (p : PrefixValue) (lines : List PrefixValue) (r : RecordValue)
    → one_line_covers (closest p lines) r ≡ one_line_covers (lines_under p lines) r → ObeyStaircase (closest p lines) r
    → JointWeightBalances p lines (closest p lines) (kept_pairs (closest p lines)) r
balances up lower p lines r explained stairs =
    ⊎_elim
    (λ any.
    let whole : joint_weight_mark (covers p r) ≡ 1 = ap joint_weight_mark (balance_lines-covers up p r lines any) in
    let nothing_left : joint_weight_mark (is_left_in_joint_weight p lines r) ≡ 0 =
    ap joint_weight_mark
    (and_right (covers p r) (not (one_line_covers (lines_under p lines) r))
    (not_from_true (one_line_covers (lines_under p lines) r) any)) in
    let kept : covering_count r (kept_pairs (closest p lines)) + 1 ≡ covering_count r (closest p lines) =
    stairs (balance_count-some (λ q. covers q r) (closest p lines) (explained ∙ any)) in
    omega arith)
    (λ none.
    let no_line : one_line_covers (closest p lines) r ≡ false = explained ∙ none in
    let near : covering_count r (closest p lines) ≡ 0 = balance_count-none (λ q. covers q r) (closest p lines) no_line in
    let meets : covering_count r (kept_pairs (closest p lines)) ≡ 0 =
    balance_count-none (λ q. covers q r) (kept_pairs (closest p lines))
    (balance_meets-none up lower (closest p lines) r (closest p lines) no_line) in
    let all_left : joint_weight_mark (is_left_in_joint_weight p lines r) ≡ joint_weight_mark (covers p r) =
    elim (covers p r) as (λ b. joint_weight_mark (b && not (one_line_covers (lines_under p lines) r)) ≡ joint_weight_mark b)
    [ true ↦ ap joint_weight_mark (not_from_false (one_line_covers (lines_under p lines) r) none) | false ↦ refl ] in
    omega arith)
    (cases_Bool (one_line_covers (lines_under p lines) r))
