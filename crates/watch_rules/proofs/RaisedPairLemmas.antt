-- The codes of raised pairs.
use Rattle.std.proofs.Common.{◌≡◌, ℕ, ◌+◌, ◌*◌, ◌^◌, ◌<◌, ◌/◌, ◌%◌, Bool, true, false, cond, not, ◌&&◌, ◌||◌, eqb, ltb}
use Rattle.std.proofs.Common.{List, [], ◌∷◌, ◌++◌, length, take, get_or, refl, sym, ap, subst, ◌∙◌, arith, append_assoc, inl, inr}
use Rattle.std.specs.Prelude.{Result, Ok, Err, OnOk, is_err}
use Rattle.std.specs.BTreeSet.{BTreeSet, contains}
use Rattle.std.specs.BTreeMap.{is_at}
use Rattle.std.specs.Ordering.{nat_cmp, is_eq}
use Rattle.std.specs.declared.cmp.Ordering.TheVariants.{Less, Equal, Greater}
use Rattle.std.proofs.lemmas.Bool.{and_parts, and_from, cond_both, ltb-true, eqb-true, eq-eqb, ne_eqb, or_cases, false≢true}
use Rattle.std.proofs.lemmas.List.{take_more, map-append}
use Rattle.std.proofs.lemmas.List.Elements.{All-head, All-tail}
use Rattle.std.proofs.lemmas.List.Folds.{list_any-append}
use Rattle.std.proofs.lemmas.Nat.{div-mul-add, mod-mul-add}
use Rattle.prefix_lattice.specs.{PrefixValue, IsPrefix, finest_grain, node_of_prefix, prefix_key, address_of, under, same_as}
use Rattle.prefix_lattice.specs.declared.grain.Grain.{Grain}
use Rattle.watch_rules.specs.declared.alarm.Alarm.{Alarm}
use Rattle.watch_rules.specs.declared.raised.Raised.{Raised}
use Rattle.watch_rules.specs.RaisedPairs.{AreCoded, AreNew, is_raised, pair_code, raised_by}
use Rattle.watch_rules.proofs.PairLemmas.{PairUnderHolds}

-- laws of prefixes: one under itself; no two of one node have a key; addresses are below 2^32
abbrev pub PairUnderItself : Type 0
PairUnderItself = (prefix : PrefixValue) → under prefix prefix ≡ true

abbrev pub PairKeysAreApart : Type 0
PairKeysAreApart = (grain : Grain) (prefix other : PrefixValue) → IsPrefix grain prefix → IsPrefix grain other
    → node_of_prefix grain prefix ≡ node_of_prefix grain other → prefix_key prefix ≡ prefix_key other → prefix ≡ other

abbrev pub PairSourcesAreShort : Type 0
PairSourcesAreShort = (grain : Grain) (prefix : PrefixValue) → IsPrefix grain prefix → address_of prefix.source < 2 ^ 32

abbrev pub PairDestsAreShort : Type 0
PairDestsAreShort = (grain : Grain) (prefix : PrefixValue) → IsPrefix grain prefix → address_of prefix.dest < 2 ^ 32

-- the laws together
pub record PairLaws : Type 0 where
  pub one : PairUnderHolds
  pub itself : PairUnderItself
  pub apart : PairKeysAreApart
  pub sources : PairSourcesAreShort
  pub dests : PairDestsAreShort

pair_comparison : (code other : ℕ) → is_at (nat_cmp code) other ≡ eqb code other
pair_comparison code other =
    cond_both (ltb code other) Less (cond (eqb code other) Equal Greater) (λ r. is_eq r ≡ eqb code other)
    (λ less. let below = ltb-true code other less in sym (ne_eqb code other (λ same. omega (arith, below, same))))
    (λ more. cond_both (eqb code other) Equal Greater (λ r. is_eq r ≡ eqb code other) (λ is. sym is) (λ is. sym is))

pair_parts : (width high low other last : ℕ) → low < width → last < width → high * width + low ≡ other * width + last
    → (high ≡ other) × (low ≡ last)
pair_parts width high low other last few short same = (
  sym (div-mul-add high width low few) ∙ ap (λ n. n / width) same ∙ div-mul-add other width last short,
  sym (mod-mul-add high width low few) ∙ ap (λ n. n % width) same ∙ mod-mul-add other width last short,
)

pair_key_is_short : PairLaws → (prefix : PrefixValue) → IsPrefix finest_grain prefix → prefix_key prefix < 2 ^ 64
pair_key_is_short laws prefix is =
    let source = laws.sources finest_grain prefix is in
    let dest = laws.dests finest_grain prefix is in
    omega (arith, source, dest)

-- no two pairs share a code
pair_codes_are_apart : PairLaws → (number other : ℕ) (prefix last : PrefixValue) → IsPrefix finest_grain prefix → IsPrefix finest_grain last
    → pair_code number prefix ≡ pair_code other last → (number ≡ other) × (prefix ≡ last)
pair_codes_are_apart laws number other prefix last is is_last same =
    let few = is.source.few in
    let few_dest = is.dest.few in
    let few_last = is_last.source.few in
    let few_last_dest = is_last.dest.few in
    let parts = pair_parts (2 ^ 64) (number * 65536 + (length prefix.source * 256 + length prefix.dest)) (prefix_key prefix)
    (other * 65536 + (length last.source * 256 + length last.dest)) (prefix_key last)
    (pair_key_is_short laws prefix is) (pair_key_is_short laws last is_last) same in
    let high = parts.0 in
    let source : length prefix.source ≡ length last.source = omega (arith, few, few_dest, few_last, few_last_dest, high) in
    let dest : length prefix.dest ≡ length last.dest = omega (arith, few, few_dest, few_last, few_last_dest, high) in
    let node : node_of_prefix finest_grain prefix ≡ node_of_prefix finest_grain last =
    ap (λ n. record { grain = finest_grain; source_bits = n; dest_bits = length prefix.dest }) source
    ∙ ap (λ n. record { grain = finest_grain; source_bits = length last.source; dest_bits = n }) dest in
    (omega (arith, few, few_dest, few_last, few_last_dest, high), laws.apart finest_grain prefix last is is_last node parts.1)

truths_of_pairs_are_equal : (x y : Bool) → (x ≡ true → y ≡ true) → (y ≡ true → x ≡ true) → x ≡ y
truths_of_pairs_are_equal true true there back = refl
truths_of_pairs_are_equal true false there back = sym (there refl)
truths_of_pairs_are_equal false true there back = back refl
truths_of_pairs_are_equal false false there back = refl

-- two codes are equal exactly if the rules and the prefixes are
pair_codes_are_equal : PairLaws → (number other : ℕ) (prefix last : PrefixValue) → IsPrefix finest_grain prefix → IsPrefix finest_grain last
    → is_at (nat_cmp (pair_code number prefix)) (pair_code other last) ≡ (eqb number other && same_as prefix last)
pair_codes_are_equal laws number other prefix last is is_last =
    pair_comparison (pair_code number prefix) (pair_code other last)
    ∙ truths_of_pairs_are_equal (eqb (pair_code number prefix) (pair_code other last)) (eqb number other && same_as prefix last)
    (λ equal.
    let parts = pair_codes_are_apart laws number other prefix last is is_last
    (eqb-true (pair_code number prefix) (pair_code other last) equal) in
    and_from (eqb number other) (same_as prefix last) (eq-eqb number other parts.0)
    (subst (λ p. same_as prefix p ≡ true) parts.1
    (and_from (under prefix prefix) (under prefix prefix) (laws.itself prefix) (laws.itself prefix))))
    (λ both.
    let parts = and_parts (eqb number other) (same_as prefix last) both in
    let ways = and_parts (under prefix last) (under last prefix) parts.1 in
    eq-eqb (pair_code number prefix) (pair_code other last)
    (ap (λ n. pair_code n prefix) (eqb-true number other parts.0)
    ∙ ap (λ p. pair_code other p) (laws.one prefix last ways.0 ways.1)))

or_turned_of_pairs : (found any : Bool) → cond found true any ≡ (any || (found || false))
or_turned_of_pairs true true = refl
or_turned_of_pairs true false = refl
or_turned_of_pairs false true = refl
or_turned_of_pairs false false = refl

-- one code more is that of one pair more
pub pair_is_entered : PairLaws → (raised : List Raised) (codes new : BTreeSet ℕ) (number : ℕ) (prefix : PrefixValue)
    → IsPrefix finest_grain prefix
    → ((code : ℕ) → contains nat_cmp new code ≡ cond (is_at (nat_cmp (pair_code number prefix)) code) true (contains nat_cmp codes code))
    → AreCoded raised codes → AreCoded (raised ++ record { rule = number; prefix = prefix } ∷ []) new
pair_is_entered laws raised codes new number prefix is adds coded = λ other last small is_last.
    let found : Bool = eqb number other && same_as prefix last in
    adds (pair_code other last)
    ∙ ap (λ b. cond b true (contains nat_cmp codes (pair_code other last))) (pair_codes_are_equal laws number other prefix last is is_last)
    ∙ ap (λ b. cond found true b) (coded other last small is_last)
    ∙ or_turned_of_pairs found (is_raised raised other last)
    ∙ sym (list_any-append (λ (pair : Raised). eqb pair.rule other && same_as pair.prefix last) raised
    (record { rule = number; prefix = prefix } ∷ []))

pub pairs_are_entered : PairLaws → (raised : List Raised) (alarms : List Alarm) (place : ℕ) (alarm : Alarm) (codes new : BTreeSet ℕ)
    → place < length alarms → alarm ≡ get_or alarms place alarm → IsPrefix finest_grain alarm.prefix
    → ((code : ℕ) → contains nat_cmp new code ≡ cond (is_at (nat_cmp (pair_code alarm.rule alarm.prefix)) code) true (contains nat_cmp codes code))
    → AreCoded (raised ++ raised_by (take place alarms)) codes → AreCoded (raised ++ raised_by (take (place + 1) alarms)) new
pairs_are_entered laws raised alarms place alarm codes new within at is adds coded =
    let before = raised_by (take place alarms) in
    let last : List Raised = record { rule = alarm.rule; prefix = alarm.prefix } ∷ [] in
    let grown : raised ++ raised_by (take (place + 1) alarms) ≡ (raised ++ before) ++ last =
    ap (λ l. raised ++ raised_by l) (take_more alarms place alarm within ∙ ap (λ a. take place alarms ++ a ∷ []) (sym at))
    ∙ ap (λ l. raised ++ l) (map-append _ (take place alarms) (alarm ∷ []))
    ∙ sym (append_assoc raised before last) in
    subst (λ l. AreCoded l new) (sym grown) (pair_is_entered laws (raised ++ before) codes new alarm.rule alarm.prefix is adds coded)

-- the codes of pairs, where those of some alarms are taken out
abbrev pub ArePairsTakenOut : List Raised → List Alarm → BTreeSet ℕ → Type 0
ArePairsTakenOut raised alarms codes = (number : ℕ) (prefix : PrefixValue) → number < 2 ^ 32 → IsPrefix finest_grain prefix
    → contains nat_cmp codes (pair_code number prefix) ≡ (is_raised raised number prefix && not (is_raised (raised_by alarms) number prefix))

and_not_of_pairs : (found any : Bool) (raised : Bool) → cond found false (raised && not any) ≡ (raised && not (any || (found || false)))
and_not_of_pairs true true true = refl
and_not_of_pairs true false true = refl
and_not_of_pairs true true false = refl
and_not_of_pairs true false false = refl
and_not_of_pairs false true true = refl
and_not_of_pairs false true false = refl
and_not_of_pairs false false true = refl
and_not_of_pairs false false false = refl

pub pairs_are_taken_out : PairLaws → (raised : List Raised) (alarms : List Alarm) (place : ℕ) (alarm : Alarm) (codes new : BTreeSet ℕ)
    → place < length alarms → alarm ≡ get_or alarms place alarm → IsPrefix finest_grain alarm.prefix
    → ((code : ℕ) → contains nat_cmp new code ≡ cond (is_at (nat_cmp (pair_code alarm.rule alarm.prefix)) code) false (contains nat_cmp codes code))
    → ArePairsTakenOut raised (take place alarms) codes → ArePairsTakenOut raised (take (place + 1) alarms) new
pairs_are_taken_out laws raised alarms place alarm codes new within at is takes out = λ other last small is_last.
    let found : Bool = eqb alarm.rule other && same_as alarm.prefix last in
    let before = raised_by (take place alarms) in
    let grown : raised_by (take (place + 1) alarms) ≡ before ++ record { rule = alarm.rule; prefix = alarm.prefix } ∷ [] =
    ap raised_by (take_more alarms place alarm within ∙ ap (λ a. take place alarms ++ a ∷ []) (sym at))
    ∙ map-append _ (take place alarms) (alarm ∷ []) in
    takes (pair_code other last)
    ∙ ap (λ b. cond b false (contains nat_cmp codes (pair_code other last))) (pair_codes_are_equal laws alarm.rule other alarm.prefix last is is_last)
    ∙ ap (λ b. cond found false b) (out other last small is_last)
    ∙ and_not_of_pairs found (is_raised before other last) (is_raised raised other last)
    ∙ ap (λ b. is_raised raised other last && not b)
    (sym (ap (λ l. is_raised l other last) grown
    ∙ list_any-append (λ (pair : Raised). eqb pair.rule other && same_as pair.prefix last) before
    (record { rule = alarm.rule; prefix = alarm.prefix } ∷ [])))

-- at first none is taken out
pub no_pair_is_taken_out : (raised : List Raised) (codes : BTreeSet ℕ) → AreCoded raised codes → ArePairsTakenOut raised [] codes
no_pair_is_taken_out raised codes coded = λ other last small is_last.
    coded other last small is_last ∙ and_true_of_pairs (is_raised raised other last)
  where
    and_true_of_pairs : (x : Bool) → x ≡ (x && not false)
    and_true_of_pairs true = refl
    and_true_of_pairs false = refl

-- a pair of new alarms isn't raised
new_pair_is_not_raised : PairUnderHolds → (raised : List Raised) (alarms : List Alarm) → AreNew raised alarms
    → (number : ℕ) (prefix : PrefixValue) → is_raised (raised_by alarms) number prefix ≡ true → is_raised raised number prefix ≡ false
new_pair_is_not_raised one raised [] new number prefix is = absurd (false≢true is)
new_pair_is_not_raised one raised (alarm ∷ alarms) new number prefix is =
    elim (or_cases (eqb alarm.rule number && same_as alarm.prefix prefix) (is_raised (raised_by alarms) number prefix) is) [
      | inl here ↦
          let parts = and_parts (eqb alarm.rule number) (same_as alarm.prefix prefix) here in
          let ways = and_parts (under alarm.prefix prefix) (under prefix alarm.prefix) parts.1 in
          sym (ap (λ n. is_raised raised n alarm.prefix) (eqb-true alarm.rule number parts.0)
          ∙ ap (λ p. is_raised raised number p) (one alarm.prefix prefix ways.0 ways.1))
          ∙ All-head (λ (a : Alarm). is_raised raised a.rule a.prefix ≡ false) alarm alarms new
      | inr there ↦ new_pair_is_not_raised one raised alarms
          (All-tail (λ (a : Alarm). is_raised raised a.rule a.prefix ≡ false) alarm alarms new) number prefix there
    ]

-- once all new ones are taken out, the others are left
pub other_pairs_are_left : PairUnderHolds → (raised : List Raised) (alarms : List Alarm) (codes : BTreeSet ℕ) → AreNew raised alarms
    → ArePairsTakenOut (raised ++ raised_by alarms) alarms codes → AreCoded raised codes
other_pairs_are_left one raised alarms codes new out = λ other last small is_last.
    let added = is_raised (raised_by alarms) other last in
    out other last small is_last
    ∙ ap (λ b. b && not added) (list_any-append (λ (pair : Raised). eqb pair.rule other && same_as pair.prefix last) raised (raised_by alarms))
    ∙ left (is_raised raised other last) added (new_pair_is_not_raised one raised alarms new other last)
  where
    left : (before added : Bool) → (added ≡ true → before ≡ false) → ((before || added) && not added) ≡ before
    left true true clash = sym (clash refl)
    left true false clash = refl
    left false true clash = refl
    left false false clash = refl

-- what a call that entered a pair ensures, once it is known not to have failed
pub pair_was_entered : {A E : Type 0} (result : Result A E) (P : Type 0) → is_err result ≡ false → OnOk result P → P
pair_was_entered (Ok value) P passed holds = holds
pair_was_entered (Err error) P passed holds = cc
