-- The codes of lines, one line after another.
use Rattle.std.proofs.Common.{◌≡◌, ◌≢◌, ℕ, ◌+◌, ◌^◌, ◌<◌, nat_eq, Bool, true, false, ◌||◌, cond, List, [], ◌∷◌}
use Rattle.std.proofs.Common.{◌++◌, length, map, take, get_or, AllPairs, Contains}
use Rattle.std.proofs.Common.{refl, sym, ap, ◌∙◌, subst, arith}
use Rattle.std.specs.List.{list_any}
use Rattle.std.specs.declared.cmp.Ordering.TheVariants.{Less, Greater}
use Rattle.std.specs.Ordering.{ordering_reverse}
use Rattle.std.specs.Cmp.{IsTotalOrder}
use Rattle.std.proofs.lemmas.Bool.{false≢true, eqb-true, eq-eqb, false_from_ne_true, cond-false}
use Rattle.std.proofs.lemmas.List.{map_more, map_push, get_or-map, get_or-take, length-map, length-take-le, take-map}
use Rattle.std.proofs.lemmas.List.Elements.{All-push, All-map, All-weaker}
use Rattle.std.proofs.lemmas.List.Kept.{AllPairs-cons}
use Rattle.std.proofs.lemmas.List.Folds.{list_any-append}
use Rattle.prefix_lattice.specs.{PrefixValue, IsPrefix, finest_grain, prefix_key, report_order}
use Rattle.prefix_lattice.specs.declared.grain.Grain.{Grain}
use Rattle.prefix_lattice.proofs.ListLemmas.{AllPairs-list_head, AllPairs-list_tail}
use Rattle.hhh_report.specs.declared.line.Line.{Line}
use Rattle.hhh_report.specs.{AreOfGrain, prefixes_of_lines}
use Rattle.exact_audit.specs.LineCodes.{AreLineCodes, line_code}
use Rattle.exact_audit.proofs.ListAnyLemmas.{list_any_truths_are_equal}
use Rattle.exact_audit.proofs.DepthLemmas.{coded_depth_has_line, DepthLineKeysAreApart}

-- one more prefix
AreLineCodes-push : {grain : Grain} (lines : List PrefixValue) (prefix : PrefixValue) (codes new : List ℕ)
    → IsPrefix grain prefix
    → prefix_key prefix < 2 ^ 64
    → ((code : ℕ) → list_any (nat_eq code) new ≡ cond (nat_eq (line_code prefix) code) true
    (list_any (nat_eq code) codes))
    → AreLineCodes grain lines codes → AreLineCodes grain (lines ++ prefix ∷ []) new
AreLineCodes-push {grain} lines prefix codes new is small adds before = record {
  prefixes = All-push (IsPrefix grain) lines prefix before.prefixes is;
  small = All-push (λ line. prefix_key line < 2 ^ 64) lines prefix before.small small;
  coded = λ code. adds code
      ∙ ap (cond (nat_eq (line_code prefix) code) true) (before.coded code)
      ∙ joined (nat_eq (line_code prefix) code) (nat_eq code (line_code prefix))
      (list_any (λ line. nat_eq code (line_code line)) lines) (turned (line_code prefix) code)
      ∙ sym (list_any-append (λ line. nat_eq code (line_code line)) lines (prefix ∷ []));
}
  where
    turned : (a b : ℕ) → nat_eq a b ≡ nat_eq b a
    turned a b = list_any_truths_are_equal (nat_eq a b) (nat_eq b a) (λ is. eq-eqb b a (sym (eqb-true a b is)))
        (λ is. eq-eqb a b (sym (eqb-true b a is)))

    joined : (a b c : Bool) → a ≡ b → cond a true c ≡ (c || (b || false))
    joined true true true same = refl
    joined true true false same = refl
    joined true false c same = absurd (false≢true (sym same))
    joined false true c same = absurd (false≢true same)
    joined false false true same = refl
    joined false false false same = refl

-- one more line
pub AreLineCodes-more : {grain : Grain} (lines : List Line) (index : ℕ) (line : Line) (codes new : List ℕ)
    → index < length lines
    → line ≡ get_or lines index line → IsPrefix grain line.prefix → prefix_key line.prefix < 2 ^ 64
    → ((code : ℕ)
    → list_any (nat_eq code) new ≡ cond (nat_eq (line_code line.prefix) code) true (list_any (nat_eq code) codes))
    → AreLineCodes grain (prefixes_of_lines (take index lines)) codes
    → AreLineCodes grain (prefixes_of_lines (take (index + 1) lines)) new
AreLineCodes-more {grain} lines index line codes new within at is small adds before =
    subst (λ prefixes. AreLineCodes grain prefixes new)
    (sym (map_more (λ line. line.prefix) lines index line within
    ∙ ap (λ (l : Line). prefixes_of_lines (take index lines) ++ l.prefix ∷ []) (sym at)))
    (AreLineCodes-push (prefixes_of_lines (take index lines)) line.prefix codes new is small adds before)

-- the codes of lines are their codes for each grain that the lines are of
pub AreLineCodes-of_grain : {grain : Grain} (lines : List Line) (codes : List ℕ) → AreOfGrain grain lines
    → AreLineCodes finest_grain (prefixes_of_lines lines) codes → AreLineCodes grain (prefixes_of_lines lines) codes
AreLineCodes-of_grain {grain} lines codes of_grain coded = record {
  prefixes = All-map (IsPrefix grain) (λ (l : Line). l.prefix) lines of_grain;
  small = coded.small;
  coded = coded.coded;
}

-- no two lines in the strict order of a report have the same prefix
pub line_prefixes_differ : IsTotalOrder report_order → (lines : List Line)
    → AllPairs (λ (line later : Line). report_order line.prefix later.prefix ≡ Less) lines
    → AllPairs (λ prefix other. prefix ≢ other) (prefixes_of_lines lines)
line_prefixes_differ order [] rising = λ i j d before below. absurd (omega arith)
line_prefixes_differ order (line ∷ lines) rising =
    AllPairs-cons (λ prefix other. prefix ≢ other) line.prefix (prefixes_of_lines lines)
    (All-map (λ other. line.prefix ≢ other) (λ (l : Line). l.prefix) lines
    (All-weaker (λ (later : Line). report_order line.prefix later.prefix ≡ Less)
    (λ (other : Line). line.prefix ≢ other.prefix)
    (λ other before same.
    let back : report_order other.prefix line.prefix ≡ Less =
    subst (λ p. report_order p line.prefix ≡ Less) same
    (subst (λ p. report_order line.prefix p ≡ Less) (sym same) before) in
    let turned : Less ≡ Greater =
    sym before ∙ order.antisymm line.prefix other.prefix ∙ ap ordering_reverse back in
    cc)
    lines (AllPairs-list_head (λ (line later : Line). report_order line.prefix later.prefix ≡ Less) line lines rising)))
    (line_prefixes_differ order lines
    (AllPairs-list_tail (λ (line later : Line). report_order line.prefix later.prefix ≡ Less) line lines rising))

-- the code of the next line is a new one
pub next_line_code_is_new : {grain : Grain} → DepthLineKeysAreApart
    → (lines : List Line) (index : ℕ) (line : Line) (codes : List ℕ)
    → AllPairs (λ prefix other. prefix ≢ other) (prefixes_of_lines lines)
    → index < length lines → line ≡ get_or lines index line → IsPrefix finest_grain line.prefix
    → prefix_key line.prefix < 2 ^ 64
    → AreLineCodes grain (prefixes_of_lines (take index lines)) codes
    → list_any (nat_eq (line_code line.prefix)) codes ≡ false
next_line_code_is_new apart lines index line codes differ within at is small coded =
    false_from_ne_true (list_any (nat_eq (line_code line.prefix)) codes) (λ has.
    twice (coded_depth_has_line apart (prefixes_of_lines (take index lines)) codes line.prefix coded is small has))
  where
    all : List PrefixValue
    all = prefixes_of_lines lines

    front : take index all ≡ prefixes_of_lines (take index lines)
    front = take-map (λ (l : Line). l.prefix) index lines

    long : length all ≡ length lines
    long = length-map lines (λ (l : Line). l.prefix)

    twice : Contains (prefixes_of_lines (take index lines)) line.prefix → ⊥
    twice (place, inside, same) =
        let few : length (prefixes_of_lines (take index lines)) ≡ index =
        length-map (take index lines) (λ (l : Line). l.prefix) ∙ length-take-le index lines (omega (arith, within)) in
        let before : place < index = omega (arith, inside, few) in
        differ place index line.prefix before (omega (arith, within, long))
        (sym (get_or-take index all place line.prefix before)
        ∙ ap (λ (l : List PrefixValue). get_or l place line.prefix) front ∙ same
        ∙ ap (λ (l : Line). l.prefix) at
        ∙ sym (get_or-map (λ (l : Line). l.prefix) lines index line line.prefix within))

-- so it is appended, and stands at the line's place
pub codes_stay_placed : (lines : List Line) (index : ℕ) (line : Line) (codes new : List ℕ)
    → index < length lines → line ≡ get_or lines index line
    → list_any (nat_eq (line_code line.prefix)) codes ≡ false
    → new ≡ cond (list_any (nat_eq (line_code line.prefix)) codes) codes (codes ++ line_code line.prefix ∷ [])
    → codes ≡ map line_code (prefixes_of_lines (take index lines))
    → new ≡ map line_code (prefixes_of_lines (take (index + 1) lines))
codes_stay_placed lines index line codes new within at none is before =
    is
    ∙ cond-false (list_any (nat_eq (line_code line.prefix)) codes) codes (codes ++ line_code line.prefix ∷ []) none
    ∙ ap (λ l. l ++ line_code line.prefix ∷ []) before
    ∙ sym (map_push line_code (prefixes_of_lines (take index lines)) line.prefix)
    ∙ ap (λ (l : Line). map line_code (prefixes_of_lines (take index lines) ++ l.prefix ∷ [])) at
    ∙ ap (map line_code) (sym (map_more (λ (l : Line). l.prefix) lines index line within))
