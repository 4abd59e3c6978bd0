-- How often a pair of a rule and a prefix stands among lines beside rules.
use Rattle.std.proofs.Common.{◌≡◌, ℕ, zero, suc, ◌+◌, ◌<◌, Bool, true, false, cond, ◌&&◌, ◌||◌, eqb}
use Rattle.std.proofs.Common.{List, [], ◌∷◌, ◌++◌, map, filter, sum_by, refl, sym, ap, ◌∙◌, arith}
use Rattle.std.specs.Prelude.{count_by, All, Some, None}
use Rattle.std.specs.List.{list_any, enumerate_from, slice_get}
use Rattle.std.proofs.lemmas.Bool.{ne_eqb, eq-eqb, and_right, cond_both}
use Rattle.std.proofs.lemmas.List.Elements.{All-head, All-tail}
use Rattle.std.proofs.lemmas.List.Sums.{sum_by-cons}
use Rattle.prefix_lattice.specs.{PrefixValue, under, same_as}
use Rattle.hhh_report.specs.declared.line.Line.{Line}
use Rattle.watch_rules.specs.declared.rule.Rule.{Rule}
use Rattle.watch_rules.specs.Crossings.{LineByRule, beside, line_by_rules, lines_by_rules}

-- that `under` goes no way round but between equal prefixes
abbrev pub PairUnderHolds : Type 0
PairUnderHolds = (prefix other : PrefixValue) → under prefix other ≡ true → under other prefix ≡ true → prefix ≡ other

-- a line beside a rule is of this rule and prefix
abbrev pub is_pair : ℕ → PrefixValue → LineByRule → Bool
is_pair number prefix at = eqb at.number number && same_as at.line.prefix prefix

-- how often it is, where a test holds
abbrev pub pair_count : (LineByRule → Bool) → ℕ → PrefixValue → List LineByRule → ℕ
pair_count test number prefix [] = 0
pair_count test number prefix (at ∷ places) =
    cond (is_pair number prefix at && test at) 1 0 + pair_count test number prefix places

-- a line beside rules that are numbered from a number on
abbrev pub pair_rules : ℕ → Line → ℕ → List Rule → List LineByRule
pair_rules report line start rules =
    map (λ (numbered : ℕ × Rule). beside report line numbered.0 numbered.1) (enumerate_from start rules)

-- it is counted among what the test keeps
pub pair_count-filter : (test : LineByRule → Bool) (number : ℕ) (prefix : PrefixValue) (places : List LineByRule)
    → count_by (is_pair number prefix) (filter test places) ≡ pair_count test number prefix places
pair_count-filter test number prefix [] = refl
pair_count-filter test number prefix (at ∷ places) =
    let counts : LineByRule → ℕ = λ place. cond (is_pair number prefix place) 1 0 in
    let more = pair_count-filter test number prefix places in
    cond_both (test at) (at ∷ filter test places) (filter test places)
    (λ kept. sum_by counts kept ≡ pair_count test number prefix (at ∷ places))
    (λ holds. sum_by-cons counts at (filter test places)
    ∙ ap (λ n. counts at + n) more
    ∙ ap (λ b. cond b 1 0 + pair_count test number prefix places) (sym (and_true (is_pair number prefix at) (test at) holds)))
    (λ fails. let none : pair_count test number prefix (at ∷ places) ≡ 0 + pair_count test number prefix places =
    ap (λ b. cond b 1 0 + pair_count test number prefix places) (and_right (is_pair number prefix at) (test at) fails) in
    omega (arith, more, none))
  where
    and_true : (x y : Bool) → y ≡ true → (x && y) ≡ x
    and_true true y holds = holds
    and_true false y holds = refl

pub pair_count-append : (test : LineByRule → Bool) (number : ℕ) (prefix : PrefixValue) (places others : List LineByRule)
    → pair_count test number prefix (places ++ others) ≡ pair_count test number prefix places + pair_count test number prefix others
pair_count-append test number prefix [] others = omega arith
pair_count-append test number prefix (at ∷ places) others =
    let more = pair_count-append test number prefix places others in omega (arith, more)

-- where it is counted no time, it isn't among them
pub pair_is_missing : (test : LineByRule → Bool) (number : ℕ) (prefix : PrefixValue) (places : List LineByRule)
    → pair_count test number prefix places ≡ 0 → list_any (λ at. is_pair number prefix at && test at) places ≡ false
pair_is_missing test number prefix [] none = refl
pair_is_missing test number prefix (at ∷ places) none =
    elim (is_pair number prefix at && test at) as (λ b. cond b 1 0 + pair_count test number prefix places ≡ 0
    → (b || list_any (λ place. is_pair number prefix place && test place) places) ≡ false) [
      | true ↦ λ e. absurd (omega (arith, e))
      | false ↦ λ e. pair_is_missing test number prefix places (omega (arith, e))
    ] none

-- where it is counted, it is
pub pair_is_there : (test : LineByRule → Bool) (number : ℕ) (prefix : PrefixValue) (places : List LineByRule)
    → 0 < pair_count test number prefix places → list_any (λ at. is_pair number prefix at && test at) places ≡ true
pair_is_there test number prefix [] some = absurd (omega (arith, some))
pair_is_there test number prefix (at ∷ places) some =
    elim (is_pair number prefix at && test at) as (λ b. 0 < cond b 1 0 + pair_count test number prefix places
    → (b || list_any (λ place. is_pair number prefix place && test place) places) ≡ true) [
      | true ↦ λ e. refl
      | false ↦ λ e. pair_is_there test number prefix places (omega (arith, e))
    ] some

-- whether it is, where it is counted at most once
pub pair_any-count : (test : LineByRule → Bool) (number : ℕ) (prefix : PrefixValue) (places : List LineByRule) (found : Bool)
    → pair_count test number prefix places ≡ cond found 1 0 → list_any (λ at. is_pair number prefix at && test at) places ≡ found
pair_any-count test number prefix places true once = pair_is_there test number prefix places (omega (arith, once))
pair_any-count test number prefix places false none = pair_is_missing test number prefix places none

-- whether it is among what the test keeps
pub pair_any-filter : (test : LineByRule → Bool) (number : ℕ) (prefix : PrefixValue) (places : List LineByRule)
    → list_any (is_pair number prefix) (filter test places) ≡ list_any (λ at. is_pair number prefix at && test at) places
pair_any-filter test number prefix [] = refl
pair_any-filter test number prefix (at ∷ places) =
    let more = pair_any-filter test number prefix places in
    cond_both (test at) (at ∷ filter test places) (filter test places)
    (λ kept. list_any (is_pair number prefix) kept
    ≡ ((is_pair number prefix at && test at) || list_any (λ place. is_pair number prefix place && test place) places))
    (λ holds. ap (λ b. is_pair number prefix at || b) more
    ∙ ap (λ b. b || list_any (λ place. is_pair number prefix place && test place) places)
    (sym (and_true (is_pair number prefix at) (test at) holds)))
    (λ fails. more
    ∙ ap (λ b. b || list_any (λ place. is_pair number prefix place && test place) places)
    (sym (and_right (is_pair number prefix at) (test at) fails)))
  where
    and_true : (x y : Bool) → y ≡ true → (x && y) ≡ x
    and_true true y holds = holds
    and_true false y holds = refl

-- rules of later numbers have no such pair
pair_count-past : (test : LineByRule → Bool) (number : ℕ) (prefix : PrefixValue) (report : ℕ) (line : Line) (start : ℕ)
    (rules : List Rule) → number < start → pair_count test number prefix (pair_rules report line start rules) ≡ 0
pair_count-past test number prefix report line start [] past = refl
pair_count-past test number prefix report line start (rule ∷ rules) past =
    let other : eqb start number ≡ false = ne_eqb start number (λ e. omega (arith, past, e)) in
    ap (λ b. cond ((b && same_as line.prefix prefix) && test (beside report line start rule)) 1 0
    + pair_count test number prefix (pair_rules report line (start + 1) rules)) other
    ∙ omega (arith, pair_count-past test number prefix report line (start + 1) rules (omega (arith, past)))

-- without a rule of this number there is none
pub pair_count-no_rule : (test : LineByRule → Bool) (number : ℕ) (prefix : PrefixValue) (report : ℕ) (line : Line)
    (start place : ℕ) (rules : List Rule) → slice_get rules place ≡ None → number ≡ start + place
    → pair_count test number prefix (pair_rules report line start rules) ≡ 0
pair_count-no_rule test number prefix report line start place [] none is = refl
pair_count-no_rule test number prefix report line start zero (rule ∷ rules) none is = cc
pair_count-no_rule test number prefix report line start (suc place) (rule ∷ rules) none is =
    let other : eqb start number ≡ false = ne_eqb start number (λ e. omega (arith, is, e)) in
    ap (λ b. cond ((b && same_as line.prefix prefix) && test (beside report line start rule)) 1 0
    + pair_count test number prefix (pair_rules report line (start + 1) rules)) other
    ∙ omega (arith, pair_count-no_rule test number prefix report line (start + 1) place rules none (omega (arith, is)))

-- with one, it stands there once, if the line has the prefix and the test holds
pub pair_count-rule : (test : LineByRule → Bool) (number : ℕ) (prefix : PrefixValue) (report : ℕ) (line : Line)
    (start place : ℕ) (rules : List Rule) (rule : Rule) → slice_get rules place ≡ Some rule → number ≡ start + place
    → pair_count test number prefix (pair_rules report line start rules)
    ≡ cond (same_as line.prefix prefix && test (beside report line number rule)) 1 0
pair_count-rule test number prefix report line start place [] rule got is = cc
pair_count-rule test number prefix report line start zero (first ∷ rules) rule got is =
    let here : start ≡ number = omega (arith, is) in
    let this : first ≡ rule = cc in
    let same : eqb start number ≡ true = eq-eqb start number here in
    let past = pair_count-past test number prefix report line (start + 1) rules (omega (arith, is)) in
    ap (λ b. cond ((b && same_as line.prefix prefix) && test (beside report line start first)) 1 0
    + pair_count test number prefix (pair_rules report line (start + 1) rules)) same
    ∙ ap (λ n. cond (same_as line.prefix prefix && test (beside report line n first)) 1 0
    + pair_count test number prefix (pair_rules report line (start + 1) rules)) here
    ∙ ap (λ r. cond (same_as line.prefix prefix && test (beside report line number r)) 1 0
    + pair_count test number prefix (pair_rules report line (start + 1) rules)) this
    ∙ omega (arith, past)
pair_count-rule test number prefix report line start (suc place) (first ∷ rules) rule got is =
    let other : eqb start number ≡ false = ne_eqb start number (λ e. omega (arith, is, e)) in
    ap (λ b. cond ((b && same_as line.prefix prefix) && test (beside report line start first)) 1 0
    + pair_count test number prefix (pair_rules report line (start + 1) rules)) other
    ∙ omega (arith, pair_count-rule test number prefix report line (start + 1) place rules rule got (omega (arith, is)))

-- with none, it doesn't stand among lines beside rules
pub pair_count-no_rule_of_lines : (test : LineByRule → Bool) (number : ℕ) (prefix : PrefixValue) (report : ℕ) (lines : List Line)
    (rules : List Rule) → slice_get rules number ≡ None
    → pair_count test number prefix (lines_by_rules rules report lines) ≡ 0
pair_count-no_rule_of_lines test number prefix report [] rules none = refl
pair_count-no_rule_of_lines test number prefix report (line ∷ lines) rules none =
    let here = pair_count-no_rule test number prefix report line 0 number rules none (omega arith) in
    let others = pair_count-no_rule_of_lines test number prefix report lines rules none in
    omega (arith, pair_count-append test number prefix (line_by_rules rules report line) (lines_by_rules rules report lines), here, others)

-- it doesn't stand among lines of other prefixes
pub pair_count-other_prefixes : (test : LineByRule → Bool) (number : ℕ) (prefix : PrefixValue) (report : ℕ) (lines : List Line)
    (rules : List Rule) (rule : Rule) → slice_get rules number ≡ Some rule
    → All (λ (line : Line). same_as line.prefix prefix ≡ false) lines
    → pair_count test number prefix (lines_by_rules rules report lines) ≡ 0
pair_count-other_prefixes test number prefix report [] rules rule got others = refl
pair_count-other_prefixes test number prefix report (line ∷ lines) rules rule got others =
    let here = pair_count-rule test number prefix report line 0 number rules rule got (omega arith)
    ∙ ap (λ b. cond (b && test (beside report line number rule)) 1 0)
    (All-head (λ (l : Line). same_as l.prefix prefix ≡ false) line lines others) in
    let more = pair_count-other_prefixes test number prefix report lines rules rule got
    (All-tail (λ (l : Line). same_as l.prefix prefix ≡ false) line lines others) in
    omega (arith, pair_count-append test number prefix (line_by_rules rules report line) (lines_by_rules rules report lines), here, more)
