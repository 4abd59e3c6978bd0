use Rattle.std.proofs.Common.{◌≡◌, ℕ, ◌+◌, ◌<◌, Bool, true, false, cond, not, List, [], ◌∷◌, ◌++◌, length, get_or}
use Rattle.std.proofs.Common.{take, filter, sym, ap, ◌∙◌, append-nil}
use Rattle.std.specs.List.{list_any}
use Rattle.std.proofs.lemmas.Bool.{cond-true, cond-false}
use Rattle.std.proofs.lemmas.List.Elements.{filter_more}
use Rattle.prefix_lattice.specs.{PrefixValue, strictly_under}
use Rattle.conditioned_bounds.proofs.lines.greatest.Goals as goal
use Rattle.conditioned_bounds.proofs.lines.greatest.Goals.{then-not-is_under_another+in_ok-push}
use Rattle.conditioned_bounds.proofs.lines.greatest.Goals.{else-not-is_under_another}

-- what passes a test, after one more element
filter_more_yes : (p : PrefixValue → Bool) (xs kept : List PrefixValue) (i : ℕ) (x : PrefixValue) → i < length xs
    → x ≡ get_or xs i x → p x ≡ true
    → kept ≡ filter p (take i xs) → kept ++ x ∷ [] ≡ filter p (take (i + 1) xs)
filter_more_yes p xs kept i x within is passes before =
    let more = filter_more p xs i x within in
    let one : cond (p (get_or xs i x)) (get_or xs i x ∷ []) [] ≡ x ∷ [] =
    ap (λ y. cond (p y) (y ∷ []) []) (sym is) ∙ cond-true (p x) (x ∷ []) [] passes in
    cc

filter_more_no : (p : PrefixValue → Bool) (xs kept : List PrefixValue) (i : ℕ) (x : PrefixValue) → i < length xs
    → x ≡ get_or xs i x → p x ≡ false
    → kept ≡ filter p (take i xs) → kept ≡ filter p (take (i + 1) xs)
filter_more_no p xs kept i x within is fails before =
    let more = filter_more p xs i x within in
    let none : cond (p (get_or xs i x)) (get_or xs i x ∷ []) [] ≡ [] =
    ap (λ y. cond (p y) (y ∷ []) []) (sym is) ∙ cond-false (p x) (x ∷ []) [] fails in
    let end = append-nil (filter p (take i xs)) in
    cc

pub loop-member-preserved : goal.loop-member-preserved
loop-member-preserved c =
    let test = λ (member : PrefixValue). not (list_any (λ other. strictly_under member other) c.args.members.now) in
    let answer : list_any (λ other. strictly_under c.member-item.result other) c.args.members.now
    ≡ c.is_under_another.result =
    sym c.is_under_another.ensures in
    elim c.if-not-is_under_another.branch [
      | then-not-is_under_another+in_ok-push w ↦
          let passes : test c.member-item.result ≡ true = ap not (answer ∙ w.if-not-is_under_another.true) in
          w.tops-is ∙ w.in_ok-push.ensures.ok
          ∙ filter_more_yes test c.args.members.now c.loop-member.tops c.loop-member.member-index
          c.member-item.result c.loop-member-test.true c.member-item.is passes c.loop-member.invariant
      | else-not-is_under_another w ↦
          let fails : test c.member-item.result ≡ false = ap not (answer ∙ w.if-not-is_under_another.false) in
          w.tops-is
          ∙ filter_more_no test c.args.members.now c.loop-member.tops c.loop-member.member-index
          c.member-item.result c.loop-member-test.true c.member-item.is fails c.loop-member.invariant
    ]
