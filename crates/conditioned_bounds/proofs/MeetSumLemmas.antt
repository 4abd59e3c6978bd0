-- Sums over the meets of kept pairs, one pair after another.
use Rattle.std.proofs.Common.{◌≡◌, ℕ, ◌+◌, ◌<◌, List, [], ◌∷◌, ◌++◌, length, get_or, take, Option}
use Rattle.std.proofs.Common.{None, Some, sym, ap, ◌∙◌, append-nil}
use Rattle.std.specs.List.{filter_map, cons_option}
use Rattle.std.proofs.lemmas.List.{take_more}
use Rattle.std.proofs.lemmas.List.Elements.{filter_map-append}
use Rattle.prefix_lattice.specs.{PrefixValue}

-- one more element that gives something
pub meet_sum-more : (f : PrefixValue → Option PrefixValue) (xs : List PrefixValue) (at : ℕ) (x y : PrefixValue)
    → at < length xs → x ≡ get_or xs at x → f x ≡ Some y
    → filter_map f (take (at + 1) xs) ≡ filter_map f (take at xs) ++ y ∷ []
meet_sum-more f xs at x y within is gives =
    ap (filter_map f) (take_more xs at x within)
    ∙ filter_map-append f (take at xs) (get_or xs at x ∷ [])
    ∙ ap (λ z. filter_map f (take at xs) ++ cons_option (f z) []) (sym is)
    ∙ ap (λ o. filter_map f (take at xs) ++ cons_option o []) gives

-- and one that gives nothing
pub meet_sum-no_more : (f : PrefixValue → Option PrefixValue) (xs : List PrefixValue) (at : ℕ) (x : PrefixValue)
    → at < length xs → x ≡ get_or xs at x → f x ≡ None
    → filter_map f (take (at + 1) xs) ≡ filter_map f (take at xs)
meet_sum-no_more f xs at x within is gives =
    ap (filter_map f) (take_more xs at x within)
    ∙ filter_map-append f (take at xs) (get_or xs at x ∷ [])
    ∙ ap (λ z. filter_map f (take at xs) ++ cons_option (f z) []) (sym is)
    ∙ ap (λ o. filter_map f (take at xs) ++ cons_option o []) gives
    ∙ append-nil (filter_map f (take at xs))
