-- Buckets in the order of their counts.
use Rattle.std.proofs.Common.{◌≡◌, ℕ, ◌<◌, ◌≤◌, List, [], ◌∷◌, ◌++◌, Option, None, Some, sym, ap, ◌∙◌, subst}
use Rattle.std.proofs.Common.{⊎_elim, arith, append_assoc}
use Rattle.std.specs.Prelude.{IfSome, MatchOption}
use Rattle.std.proofs.lemmas.Bool.{cases_lt}
use Rattle.stream_summary.specs.declared.numbers.BucketNumber.{BucketNumber}
use Rattle.stream_summary.specs.Lists.{Pairwise}
use Rattle.stream_summary.specs.Ring.{IsIn, IsFirstOf}
use Rattle.stream_summary.specs.Buckets.{AreBucketedBy, IsBelow, free_count}
use Rattle.stream_summary.proofs.AllInPairwiseLemmas.{all_at, is_in_cases, is_in_append_cases, is_in_none, is_in_first}
use Rattle.stream_summary.proofs.AllInPairwiseLemmas.{pairwise_before, pairwise_behind, pairwise_back}

-- no bucket above one comes before the bucket that follows it
pub step_least : (count : ℕ → ℕ) (front : List ℕ) (a next : ℕ) (rest : List ℕ) (other : ℕ) → Pairwise (IsBelow count) (front ++ a ∷ next ∷ rest)
    → IsIn other (front ++ a ∷ next ∷ rest) → count a < count other → count next ≤ count other
step_least count front a next rest other pairs is_in above =
    ⊎_elim
    (λ (before : IsIn other front).
    let low : IsBelow count other a = all_at (λ b. IsBelow count b a) other front (pairwise_before (IsBelow count) front a (next ∷ rest) pairs) before in
    absurd (omega (arith, low.rises)))
    (λ (from : IsIn other (a ∷ next ∷ rest)). ⊎_elim
    (λ (here : a ≡ other). absurd (omega (arith, ap count here)))
    (λ (behind : IsIn other (next ∷ rest)). ⊎_elim
    (λ (here : next ≡ other). omega (arith, ap count here))
    (λ (there : IsIn other rest).
    let low : IsBelow count next other =
    all_at (IsBelow count next) other rest (pairwise_back (IsBelow count) front (a ∷ next ∷ rest) pairs).1.0 there in
    low.rises)
    (is_in_cases other next rest behind))
    (is_in_cases other a (next ∷ rest) from))
    (is_in_append_cases other front (a ∷ next ∷ rest) is_in)

-- no bucket is above the last one
pub step_last : (count : ℕ → ℕ) (front : List ℕ) (a other : ℕ) → Pairwise (IsBelow count) (front ++ a ∷ []) → IsIn other (front ++ a ∷ [])
    → count a < count other → ⊥
step_last count front a other pairs is_in above =
    ⊎_elim
    (λ (before : IsIn other front).
    let low : IsBelow count other a = all_at (λ b. IsBelow count b a) other front (pairwise_before (IsBelow count) front a [] pairs) before in
    absurd (omega (arith, low.rises)))
    (λ (from : IsIn other (a ∷ [])). ⊎_elim
    (λ (here : a ≡ other). omega (arith, ap count here))
    (λ (there : IsIn other []). is_in_none other there)
    (is_in_cases other a [] from))
    (is_in_append_cases other front (a ∷ []) is_in)

-- the first bucket has the least count
pub step_first : (count : ℕ → ℕ) (first : ℕ) (rest : List ℕ) (other : ℕ) → Pairwise (IsBelow count) (first ∷ rest) → IsIn other (first ∷ rest)
    → count first ≤ count other
step_first count first rest other pairs is_in =
    ⊎_elim
    (λ (here : first ≡ other). omega (arith, ap count here))
    (λ (there : IsIn other rest). let low : IsBelow count first other = all_at (IsBelow count first) other rest pairs.0 there in low.rises)
    (is_in_cases other first rest is_in)

-- what is said of the bucket that follows one, or of the first bucket
pub record StepFollowsBucket (count : ℕ → ℕ) (room : ℕ) (bucket result : Option BucketNumber) : Type 0 where
  pub within : IfSome result (λ b. b.0 < room)
  pub above : IfSome result (λ b. IfSome bucket (λ a. count a.0 < count b.0))
  pub next : (other : ℕ) → other < room → IfSome bucket (λ a. count a.0 < count other)
      → MatchOption result ⊥ (λ b. count b.0 ≤ count other)

pub step_after : (bucket count last : ℕ → ℕ) (room : ℕ) (order steps : List ℕ) (a : BucketNumber) (result : Option BucketNumber)
    → AreBucketedBy bucket count last room order steps → a.0 < room → count a.0 < free_count
    → ((front back : List ℕ) → steps ≡ front ++ a.0 ∷ back → MatchOption result (back ≡ []) (λ next. IsFirstOf next.0 back))
    → StepFollowsBucket count room (Some a) result
step_after bucket count last room order steps a None linked within used after =
    let at = linked.whole a.0 within in
    let end : at.back ≡ [] = after at.front at.back at.is in
    let is : steps ≡ at.front ++ a.0 ∷ [] = at.is ∙ ap (λ l. at.front ++ a.0 ∷ l) end in
    record {
      within = tt;
      above = tt;
      next = λ other low above. step_last count at.front a.0 other (subst (Pairwise (IsBelow count)) is linked.buckets)
          (subst (IsIn other) is (linked.whole other low)) above;
    }
step_after bucket count last room order steps a (Some b) linked within used after =
    let at = linked.whole a.0 within in
    let begins : IsFirstOf b.0 at.back = after at.front at.back at.is in
    let is : steps ≡ at.front ++ a.0 ∷ b.0 ∷ begins.0 = at.is ∙ ap (λ l. at.front ++ a.0 ∷ l) begins.1 in
    let pairs : Pairwise (IsBelow count) (at.front ++ a.0 ∷ b.0 ∷ begins.0) = subst (Pairwise (IsBelow count)) is linked.buckets in
    let low : IsBelow count a.0 b.0 = (pairwise_behind (IsBelow count) at.front a.0 (b.0 ∷ begins.0) pairs).0 in
    let inside : IsIn b.0 steps = record {
      front = at.front ++ a.0 ∷ [];
      back = begins.0;
      is = is ∙ sym (append_assoc
          at.front (a.0 ∷ []) (b.0 ∷ begins.0));
    } in
    record {
      within = all_at (λ b. b < room) b.0 steps linked.within inside;
      above = low.strictly used;
      next = λ other low above. step_least count at.front a.0 b.0 begins.0 other pairs (subst (IsIn other) is (linked.whole other low)) above;
    }

pub step_begin : (bucket count last : ℕ → ℕ) (room : ℕ) (order steps : List ℕ) (result : Option BucketNumber)
    → AreBucketedBy bucket count last room order steps → MatchOption result (steps ≡ []) (λ first. IsFirstOf first.0 steps)
    → StepFollowsBucket count room None result
step_begin bucket count last room order steps None linked none = record {
  within = tt;
  above = tt;
  next = λ other low above. is_in_none other (subst (IsIn other) none (linked.whole other low));
}
step_begin bucket count last room order steps (Some b) linked begins = record {
  within = all_at (λ b. b < room) b.0 steps linked.within (subst (IsIn b.0) (sym begins.1) (is_in_first b.0 begins.0));
  above = tt;
  next = λ other low above. step_first count b.0 begins.0 other (subst (Pairwise (IsBelow count)) begins.1 linked.buckets)
      (subst (IsIn other) begins.1 (linked.whole other low));
}

-- where no bucket follows, none is above
pub step_none_above : (count : ℕ → ℕ) (room : ℕ) (bucket : Option BucketNumber)
    → ((other : ℕ) → other < room → IfSome bucket (λ a. count a.0 < count other) → ⊥) → (other : ℕ) → other < room
    → MatchOption bucket ⊥ (λ a. count other ≤ count a.0)
step_none_above count room None none other low = none other low tt
step_none_above count room (Some a) none other low =
    ⊎_elim
    (λ (above : count a.0 < count other). absurd (none other low above))
    (λ (below : count other ≤ count a.0). below)
    (cases_lt (count a.0) (count other))
