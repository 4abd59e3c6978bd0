-- Closest lines and their kept pairs, one after another.
use Rattle.std.proofs.Common.{◌≡◌, ℕ, ◌+◌, ◌<◌, Bool, true, false, cond, List, [], ◌∷◌, ◌++◌, length, get_or, take}
use Rattle.std.proofs.Common.{filter, Option}
use Rattle.std.proofs.Common.{None, Some, is_some, refl, sym, ap, ◌∙◌, append-nil}
use Rattle.std.specs.List.{filter_map, cons_option}
use Rattle.std.proofs.lemmas.Bool.{cond-true, cond-false}
use Rattle.std.proofs.lemmas.List.{take_more, length-append}
use Rattle.std.proofs.lemmas.List.Elements.{filter_map-append, filter_more}
use Rattle.prefix_lattice.specs.{PrefixValue}

-- what passes a test, after one more element
pub passing_line_is_kept : (p : PrefixValue → Bool) (xs kept : List PrefixValue) (i : ℕ) (x : PrefixValue)
    → i < length xs
    → x ≡ get_or xs i x → p x ≡ true
    → kept ≡ filter p (take i xs) → kept ++ x ∷ [] ≡ filter p (take (i + 1) xs)
passing_line_is_kept p xs kept i x within is passes before =
    let more = filter_more p xs i x within in
    let one : cond (p (get_or xs i x)) (get_or xs i x ∷ []) [] ≡ x ∷ [] =
    ap (λ y. cond (p y) (y ∷ []) []) (sym is) ∙ cond-true (p x) (x ∷ []) [] passes in
    cc

pub failing_line_is_not_kept : (p : PrefixValue → Bool) (xs kept : List PrefixValue) (i : ℕ) (x : PrefixValue)
    → i < length xs
    → x ≡ get_or xs i x → p x ≡ false
    → kept ≡ filter p (take i xs) → kept ≡ filter p (take (i + 1) xs)
failing_line_is_not_kept p xs kept i x within is fails before =
    let more = filter_more p xs i x within in
    let none : cond (p (get_or xs i x)) (get_or xs i x ∷ []) [] ≡ [] =
    ap (λ y. cond (p y) (y ∷ []) []) (sym is) ∙ cond-false (p x) (x ∷ []) [] fails in
    let end = append-nil (filter p (take i xs)) in
    cc

-- how many elements give something, after one more
pub kept_line_count_grows : (f : PrefixValue → Option PrefixValue) (xs : List PrefixValue) (at : ℕ) (x : PrefixValue)
    (given : Bool)
    → at < length xs → x ≡ get_or xs at x → given ≡ is_some (f x)
    → length (filter_map f (take (at + 1) xs)) ≡ length (filter_map f (take at xs)) + cond given 1 0
kept_line_count_grows f xs at x given within is gives =
    ap length (ap (filter_map f) (take_more xs at x within)
    ∙ filter_map-append f (take at xs) (get_or xs at x ∷ [])
    ∙ ap (λ z. filter_map f (take at xs) ++ cons_option (f z) []) (sym is))
    ∙ length-append (filter_map f (take at xs)) (cons_option (f x) [])
    ∙ ap (λ n. length (filter_map f (take at xs)) + n) (one (f x) ∙ ap (λ b. cond b 1 0) (sym gives))
  where
    one : (o : Option PrefixValue) → length (cons_option o []) ≡ cond (is_some o) 1 0
    one None = refl
    one (Some y) = refl
