-- Arenas after an entry was put in, as the tables that they stand for.
use Rattle.std.proofs.Common.{◌≡◌, ◌≢◌, ℕ, List, [], ◌∷◌, ◌++◌, length, map, sym, ap, ◌∙◌, subst, arith, length-append}
use Rattle.std.proofs.Common.{⊎_elim}
use Rattle.std.proofs.lemmas.Bool.{cases_eq}
use Rattle.std.proofs.lemmas.List.Elements.{All-from_recursion}
use Rattle.std.specs.List.{AllByRecursion}
use Rattle.space_saving.specs.declared.entry.Entry.{Entry}
use Rattle.space_saving.specs.{put_into}
use Rattle.stream_summary.specs.declared.arena.Arena.{Arena}
use Rattle.stream_summary.specs.Lists.{Pairwise}
use Rattle.stream_summary.specs.Ring.{IsIn, AreDistinct}
use Rattle.stream_summary.specs.Buckets.{GoesBefore, bucket_of, count_of, entry_at, last_of}
use Rattle.stream_summary.specs.Arena.{IsArena, IsPutIn, IsReplaced, IsTakenOut, arena_entries}
use Rattle.stream_summary.proofs.InOrderLemmas.{order_one_split}
use Rattle.stream_summary.proofs.AllInPairwiseLemmas.{all_map, is_in_between, is_in_insert, is_in_remove}
use Rattle.stream_summary.proofs.BucketedTakeLemmas.{bucketed_apart_from_entry}
use Rattle.stream_summary.proofs.ContentLemmas.{content_put_at_place}

-- the entries of an order are distinct
pub replaced_order_is_distinct : (bucket count last : ℕ → ℕ) (order : List ℕ) → Pairwise (GoesBefore bucket count last) order → AreDistinct order
replaced_order_is_distinct bucket count last [] pairs = tt
replaced_order_is_distinct bucket count last (x ∷ order) pairs = (
  All-from_recursion (λ other. other ≢ x) order
      (all_map (λ y (goes : GoesBefore bucket count last x y). λ same. goes.apart (sym same)) order pairs.0),
  replaced_order_is_distinct bucket count last order pairs.1,
)

-- the entries after one was put in
pub replaced_entries_after_put : (place : ℕ) (entry : Entry) (old new : Arena) → IsPutIn place entry old new
    → arena_entries new ≡ put_into entry (arena_entries old)
replaced_entries_after_put place entry old new put =
    let f = entry_at old.slots.items old.buckets.items in
    let g = entry_at new.slots.items new.buckets.items in
    ap (map g) put.after ∙ content_put_at_place f g place entry put.front put.back put.entries put.here put.less put.greater
    ∙ ap (λ l. put_into entry (map f l)) (sym put.before)

-- one that was taken out before, and another one
pub replaced : (place : ℕ) (entry : Entry) (old between new : Arena) → IsArena old → IsTakenOut place old between → IsPutIn place entry between new
    → IsReplaced place entry old new
replaced place entry old between new holds taken put =
    let f = entry_at old.slots.items old.buckets.items in
    let g = entry_at between.slots.items between.buckets.items in
    let inside : IsIn place new.order.order = subst (IsIn place) (sym put.after) (is_in_between put.front place put.back) in
    record {
      entries = λ front back is.
          let same = order_one_split place taken.front taken.back front back
          (subst AreDistinct taken.before (replaced_order_is_distinct (bucket_of old.slots.items) (count_of old.buckets.items) (last_of old.buckets.items)
          old.order.order holds.linked.entries)) (sym taken.before ∙ is) in
          replaced_entries_after_put place entry between new put ∙ ap (put_into entry) (ap (map g) taken.after ∙ taken.entries
          ∙ ap (λ l. map f (l ++ taken.back)) same.0 ∙ ap (λ l. map f (front ++ l)) same.1);
      stays = λ other is_in. ⊎_elim
          (λ (here : other ≡ place). subst (λ n. IsIn n new.order.order) (sym here) inside)
          (λ (there : other ≡ place → ⊥). subst (IsIn other) (sym put.after) (is_in_insert other put.front place put.back
          (subst (IsIn other) put.before (subst (IsIn other) (sym taken.after)
          (is_in_remove other taken.front place taken.back there (subst (IsIn other) taken.before is_in))))))
          (cases_eq other place);
      counted = omega (
        arith,
        ap (λ (l : List ℕ). length l) taken.before,
        ap (λ (l : List ℕ). length l) taken.after,
        ap (λ (l : List ℕ). length l) put.before,
        ap (λ (l : List ℕ). length l) put.after,
        length-append taken.front taken.back,
        length-append taken.front (place ∷ taken.back),
        length-append put.front put.back,
        length-append put.front (place ∷ put.back),
      );
    }

-- the others are apart from one that was taken out
pub replaced_taken_is_apart : (place : ℕ) (old new : Arena) → IsArena old → IsTakenOut place old new
    → AllByRecursion (λ other. other ≢ place) new.order.order
replaced_taken_is_apart place old new holds taken =
    subst (AllByRecursion (λ other. other ≢ place)) (sym taken.after)
    (bucketed_apart_from_entry (bucket_of old.slots.items) (count_of old.buckets.items) (last_of old.buckets.items) taken.front place taken.back
    (subst (Pairwise (GoesBefore (bucket_of old.slots.items) (count_of old.buckets.items) (last_of old.buckets.items))) taken.before holds.linked.entries))
