-- Entries that are put behind all others, in their order.
use Rattle.std.proofs.Common.{◌≡◌, ℕ, ◌+◌, ◌≤◌, zero, suc, List, [], ◌∷◌, ◌++◌, take, Some, sym, ap, ◌∙◌, subst, arith}
use Rattle.std.specs.Prelude.{slice_get}
use Rattle.std.proofs.lemmas.List.{append-nil, take_more}
use Rattle.std.proofs.lemmas.Option.{slice_get_within, get_or_from_slice_get}
use Rattle.std.specs.List.{AllByRecursion}
use Rattle.space_saving.specs.declared.entry.Entry.{Entry}
use Rattle.space_saving.specs.{RisesFrom, put_into}
use Rattle.stream_summary.proofs.ContentLemmas.{content_put_between}

-- counts that never fall are at most each later one
loaded_rises_at_least : (least : ℕ) (es : List Entry) (index : ℕ) (e : Entry) → RisesFrom least es → slice_get es index ≡ Some e → least ≤ e.count
loaded_rises_at_least least [] index e rises at = cc
loaded_rises_at_least least (f ∷ es) zero e rises at = let same : f ≡ e = cc in subst (λ (g : Entry). least ≤ g.count) same rises.0
loaded_rises_at_least least (f ∷ es) (suc index) e rises at =
    let low : least ≤ f.count = rises.0 in
    omega (arith, low, loaded_rises_at_least f.count es index e rises.1 at)

pub loaded_less_before_index : (least : ℕ) (es : List Entry) (index : ℕ) (e : Entry) → RisesFrom least es → slice_get es index ≡ Some e
    → AllByRecursion (λ x. x.count ≤ e.count) (take index es)
loaded_less_before_index least [] index e rises at = cc
loaded_less_before_index least (f ∷ es) zero e rises at = tt
loaded_less_before_index least (f ∷ es) (suc index) e rises at =
    (loaded_rises_at_least f.count es index e rises.1 at, loaded_less_before_index f.count es index e rises.1 at)

-- an entry that is put behind those before it
pub loaded_more : (es : List Entry) (index : ℕ) (e : Entry) → RisesFrom 0 es → slice_get es index ≡ Some e
    → put_into e (take index es) ≡ take (index + 1) es
loaded_more es index e rises at =
    ap (put_into e) (sym (append-nil (take index es))) ∙ content_put_between e (take index es) [] (loaded_less_before_index 0 es index e rises at) tt
    ∙ ap (λ (x : Entry). take index es ++ x ∷ []) (sym (get_or_from_slice_get es index e e at))
    ∙ sym (take_more es index e (slice_get_within es index e at))
