-- Buckets that are free.
use Rattle.std.proofs.Common.{◌≡◌, ◌≢◌, ℕ, ◌<◌, ◌≤◌, zero, suc, List, [], ◌∷◌, ◌++◌, ◌⊎◌, inl, inr, length, refl}
use Rattle.std.proofs.Common.{sym, ap, ◌∙◌, subst}
use Rattle.std.proofs.Common.{⊎_elim, arith, Option, None, Some}
use Rattle.std.specs.Prelude.{MatchOption, IsSome, IfSome}
use Rattle.std.proofs.lemmas.Bool.{cases_eq, cases_lt}
use Rattle.std.proofs.lemmas.List.Elements.{All-from_recursion}
use Rattle.std.specs.List.{AllByRecursion}
use Rattle.stream_summary.specs.declared.arena.Arena.{Arena}
use Rattle.stream_summary.specs.declared.numbers.BucketNumber.{BucketNumber}
use Rattle.stream_summary.specs.Lists.{Pairwise}
use Rattle.stream_summary.specs.Ring.{IsIn, IsLastOf, AreDistinct}
use Rattle.stream_summary.specs.Buckets.{IsBelow, IsInUse, bucket_of, count_of, last_of, free_count}
use Rattle.stream_summary.specs.Arena.{IsArena, HasFree}
use Rattle.stream_summary.proofs.NumberLemmas.{number_distinct_fit}
use Rattle.stream_summary.proofs.AllInPairwiseLemmas.{all_at, is_in_none, is_in_cases, is_in_append_cases}
use Rattle.stream_summary.proofs.AllInPairwiseLemmas.{is_in_between, pairwise_before}

-- among so many buckets one is free, or all are in use
free_or_used : (count : ℕ → ℕ) (n : ℕ) → ((b : ℕ) → count b ≤ free_count)
    → ((b : ℕ) × (b < n) × (count b ≡ free_count)) ⊎ ((b : ℕ) → b < n → count b < free_count)
free_or_used count zero most = inr (λ b low. absurd (omega arith))
free_or_used count (suc n) most =
    ⊎_elim
    (λ (found : (b : ℕ) × (b < n) × (count b ≡ free_count)). inl (found.0, omega (arith, found.1), found.2))
    (λ (used : (b : ℕ) → b < n → count b < free_count). ⊎_elim
    (λ (free : count n ≡ free_count). inl (n, omega arith, free))
    (λ (here : count n ≡ free_count → ⊥). inr (λ b low. ⊎_elim
    (λ (below : b < n). used b below)
    (λ (above : n ≤ b). let is : b ≡ n = omega arith in
    let not_free : count n ≢ free_count = here in omega (arith, most n, not_free, ap count is))
    (cases_lt b n)))
    (cases_eq (count n) free_count))
    (free_or_used count n most)

-- the last entries of so many buckets
abbrev bucket_lasts_below : (ℕ → ℕ) → ℕ → List ℕ
bucket_lasts_below last zero = []
bucket_lasts_below last (suc n) = last n ∷ bucket_lasts_below last n

bucket_length-lasts_below : (last : ℕ → ℕ) (n : ℕ) → length (bucket_lasts_below last n) ≡ n
bucket_length-lasts_below last zero = refl
bucket_length-lasts_below last (suc n) = ap suc (bucket_length-lasts_below last n)

bucket_lasts_all : (P : ℕ → Type 0) (last : ℕ → ℕ) (n : ℕ) → ((b : ℕ) → b < n → P (last b)) → AllByRecursion P (bucket_lasts_below last n)
bucket_lasts_all P last zero each = tt
bucket_lasts_all P last (suc n) each = (each n (omega arith), bucket_lasts_all P last n (λ b low. each b (omega arith)))

bucket_lasts_distinct : (bucket last : ℕ → ℕ) (n : ℕ) → ((b : ℕ) → b < n → bucket (last b) ≡ b) → AreDistinct (bucket_lasts_below last n)
bucket_lasts_distinct bucket last zero own = tt
bucket_lasts_distinct bucket last (suc n) own = (
  All-from_recursion (λ other. other ≢ last n) (bucket_lasts_below last n) (bucket_lasts_all (λ other. other ≢ last n) last n (λ b low same.
      let is : b ≡ n = sym (own b (omega arith)) ∙ ap bucket same ∙ own n (omega arith) in
      omega arith)),
  bucket_lasts_distinct bucket last n (λ b low. own b (omega arith)),
)

-- some bucket is free while a slot isn't in the order
pub some_is_free : (arena : Arena) (place : ℕ) → IsArena arena → place < length arena.slots.items
    → AllByRecursion (λ other. other ≢ place) arena.order.order → HasFree arena.buckets.items
some_is_free arena place holds within apart =
    let count = count_of arena.buckets.items in
    let last = last_of arena.buckets.items in
    let room = length arena.buckets.items in
    ⊎_elim
    (λ (found : (b : ℕ) × (b < room) × (count b ≡ free_count)). found)
    (λ (used : (b : ℕ) → b < room → count b < free_count).
    let used_at : (b : ℕ) → b < room → IsInUse count room b = λ b low. record { within = low; counts = used b low } in
    let lasts = bucket_lasts_below last room in
    let long : length lasts ≡ room = bucket_length-lasts_below last room in
    let below : AllByRecursion (λ x. x < length arena.slots.items) (place ∷ lasts) = (
      within,
      bucket_lasts_all (λ x. x < length arena.slots.items) last room
          (λ b low. all_at (λ x. x < length arena.slots.items) (last b) arena.order.order holds.within (holds.linked.lasts b (used_at b low))),
    ) in
    let distinct : AreDistinct (place ∷ lasts) = (
      All-from_recursion (λ other. other ≢ place) lasts (bucket_lasts_all (λ other. other ≢ place) last room
          (λ b low. all_at (λ other. other ≢ place) (last b) arena.order.order apart (holds.linked.lasts b (used_at b low)))),
      bucket_lasts_distinct (bucket_of arena.slots.items) last room (λ b low. holds.linked.own b (used_at b low)),
    ) in
    let fits : length (place ∷ lasts) ≤ length arena.slots.items =
    number_distinct_fit (length arena.slots.items) (place ∷ lasts)
    (All-from_recursion (λ x. x < length arena.slots.items) (place ∷ lasts) below) distinct in
    absurd (omega (arith, fits, long, holds.fits)))
    (free_or_used count room holds.linked.most)

-- then the last of all buckets is free
pub last_bucket_exists : (arena : Arena) (result : Option BucketNumber) → IsArena arena → HasFree arena.buckets.items
    → MatchOption result (arena.steps.order ≡ []) (λ last. IsLastOf last.0 arena.steps.order) → IsSome result
last_bucket_exists arena None holds free none =
    absurd (is_in_none free.0 (subst (IsIn free.0) none (holds.linked.whole free.0 free.1)))
last_bucket_exists arena (Some b) holds free ends = refl

pub last_bucket_is_free : (arena : Arena) (result : Option BucketNumber) → IsArena arena → HasFree arena.buckets.items
    → MatchOption result (arena.steps.order ≡ []) (λ last. IsLastOf last.0 arena.steps.order)
    → IfSome result (λ last. (last.0 < length arena.buckets.items) × (count_of arena.buckets.items last.0 ≡ free_count))
last_bucket_is_free arena None holds free none = tt
last_bucket_is_free arena (Some b) holds free ends =
    let count = count_of arena.buckets.items in
    let front = ends.0 in
    let pairs : Pairwise (IsBelow count) (front ++ b.0 ∷ []) = subst (Pairwise (IsBelow count)) ends.1 holds.linked.buckets in
    let inside : IsIn b.0 arena.steps.order = subst (IsIn b.0) (sym ends.1) (is_in_between front b.0 []) in
    let most = holds.linked.most b.0 in (
      all_at (λ x. x < length arena.buckets.items) b.0 arena.steps.order holds.linked.within inside,
      ⊎_elim
          (λ (before : IsIn free.0 front).
          let low : IsBelow count free.0 b.0 = all_at (λ x. IsBelow count x b.0) free.0 front (pairwise_before (IsBelow count) front b.0 [] pairs) before in
          omega (arith, low.rises, most, free.2))
          (λ (from : IsIn free.0 (b.0 ∷ [])). ⊎_elim
          (λ (here : b.0 ≡ free.0). ap count here ∙ free.2)
          (λ (there : IsIn free.0 []). absurd (is_in_none free.0 there))
          (is_in_cases free.0 b.0 [] from))
          (is_in_append_cases free.0 front (b.0 ∷ []) (subst (IsIn free.0) ends.1 (holds.linked.whole free.0 free.1))),
    )
