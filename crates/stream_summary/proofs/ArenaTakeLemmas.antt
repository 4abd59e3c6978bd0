-- Arenas after an entry was taken out.
use Rattle.std.proofs.Common.{◌≡◌, ◌≢◌, ℕ, ◌<◌, ◌≤◌, List, [], ◌∷◌, ◌++◌, length, set, get_or, refl, sym, ap, ◌∙◌}
use Rattle.std.proofs.Common.{subst, arith}
use Rattle.std.proofs.Common.{⊎_elim, Option, None, Some}
use Rattle.std.specs.Prelude.{IfSome, MatchOption}
use Rattle.std.proofs.lemmas.Bool.{cases_eq, eq-eqb, eqb-true}
use Rattle.std.proofs.Common.{true, false, not, eqb}
use Rattle.std.proofs.lemmas.Option.{IfSome_then}
use Rattle.std.proofs.lemmas.List.{length-set}
use Rattle.std.specs.List.{AllByRecursion}
use Rattle.stream_summary.specs.declared.arena.Arena.{Arena}
use Rattle.stream_summary.specs.declared.slot.Bucket.{Bucket}
use Rattle.stream_summary.specs.declared.numbers.EntryNumber.{EntryNumber}
use Rattle.stream_summary.specs.declared.numbers.BucketNumber.{BucketNumber}
use Rattle.stream_summary.specs.Lists.{Pairwise}
use Rattle.stream_summary.specs.Ring.{IsIn, IsLastOf}
use Rattle.stream_summary.specs.Buckets.{AreBucketed, IsBelow, bucket_of, count_of, entries_at, last_of, free_count}
use Rattle.stream_summary.specs.Buckets.{no_bucket}
use Rattle.stream_summary.specs.Arena.{IsArena, IsTakenOut, given_back}
use Rattle.stream_summary.proofs.AllInPairwiseLemmas.{all_at, all_remove, is_in_between, pairwise_before, is_in_front}
use Rattle.stream_summary.proofs.BucketedTakeLemmas.{bucketed_without, bucketed_new_last, bucketed_given_back}
use Rattle.stream_summary.proofs.BucketedTakeLemmas.{bucketed_entry_is_alone}
use Rattle.stream_summary.proofs.ArenaLemmas.{arena_of_parts, arena_bucket_written, arena_bucket_elsewhere}
use Rattle.stream_summary.proofs.ArenaLemmas.{arena_entries_stay, arena_entry_keeps_count}

-- an entry that isn't the last of its bucket
pub arena_without : (old new : Arena) (front : List ℕ) (place : ℕ) (back : List ℕ) → IsArena old → old.order.order ≡ front ++ place ∷ back
    → last_of old.buckets.items (bucket_of old.slots.items place) ≢ place
    → new.slots ≡ old.slots → new.buckets.items ≡ old.buckets.items → new.order.room ≡ old.order.room → new.order.order ≡ front ++ back
    → new.steps ≡ old.steps → IsArena new
arena_without old new front place back holds is more slots buckets room order steps =
    let bs = old.buckets.items in
    arena_of_parts new old.slots.items bs (front ++ back) old.steps.order (ap (λ v. v.items) slots) buckets order (ap (λ v. v.order) steps)
    holds.most holds.fits (room ∙ holds.order_room) (ap (λ v. v.room) steps ∙ holds.steps_room)
    (all_remove (λ x. x < length old.slots.items) front place back (subst (AllByRecursion (λ x. x < length old.slots.items)) is holds.within))
    (bucketed_without (bucket_of old.slots.items) (count_of bs) (last_of bs) (length bs) front place back old.steps.order
    (subst (λ l. AreBucketed old.slots.items bs (length bs) l old.steps.order) is holds.linked) more)

-- counts stay where a bucket gets another last entry
pub arena_count_with_last : (buckets : List Bucket) (b : ℕ) (last : EntryNumber) (other : ℕ) → b < length buckets
    → count_of (set buckets b (record { count = count_of buckets b; last = last })) other ≡ count_of buckets other
arena_count_with_last buckets b last other within =
    let written : Bucket = record { count = count_of buckets b; last = last } in
    ⊎_elim
    (λ (here : other ≡ b). ap (λ n. count_of (set buckets b written) n) here ∙ ap (λ (k : Bucket). k.count) (arena_bucket_written buckets b written within)
    ∙ ap (count_of buckets) (sym here))
    (λ (there : other ≡ b → ⊥). ap (λ (k : Bucket). k.count) (arena_bucket_elsewhere buckets b other written there))
    (cases_eq other b)

-- the last entry of a bucket, before which another one of it stands
pub arena_new_last : (old new : Arena) (start : List ℕ) (heir : EntryNumber) (place : ℕ) (front back : List ℕ) → IsArena old
    → old.order.order ≡ front ++ place ∷ back → front ≡ start ++ heir.0 ∷ []
    → last_of old.buckets.items (bucket_of old.slots.items place) ≡ place
    → bucket_of old.slots.items heir.0 ≡ bucket_of old.slots.items place → bucket_of old.slots.items place < length old.buckets.items
    → new.slots ≡ old.slots
    → new.buckets.items ≡ set old.buckets.items (bucket_of old.slots.items place)
    (record { count = count_of old.buckets.items (bucket_of old.slots.items place); last = heir })
    → new.order.room ≡ old.order.room → new.order.order ≡ front ++ back
    → new.steps ≡ old.steps → IsArena new
arena_new_last old new start heir place front back holds is ends is_last together within slots buckets room order steps =
    let bs = old.buckets.items in
    let b = bucket_of old.slots.items place in
    let written : Bucket = record { count = count_of bs b; last = heir } in
    let after = set bs b written in
    let same_length : length after ≡ length bs = length-set bs b written in
    let split : old.order.order ≡ (start ++ heir.0 ∷ []) ++ place ∷ back = is ∙ ap (λ l. l ++ place ∷ back) ends in
    let result : AreBucketed old.slots.items after (length bs) ((start ++ heir.0 ∷ []) ++ back) old.steps.order =
    bucketed_new_last (bucket_of old.slots.items) (count_of bs) (last_of bs) (count_of after) (last_of after) (length bs) start heir.0 place back
    old.steps.order (subst (λ l. AreBucketed old.slots.items bs (length bs) l old.steps.order) split holds.linked) is_last together
    (λ other. arena_count_with_last bs b heir other within) (ap (λ (k : Bucket). k.last.0) (arena_bucket_written bs b written within))
    (λ other apart. ap (λ (k : Bucket). k.last.0) (arena_bucket_elsewhere bs b other written apart)) in
    arena_of_parts new old.slots.items after ((start ++ heir.0 ∷ []) ++ back) old.steps.order (ap (λ v. v.items) slots) buckets
    (order ∙ ap (λ l. l ++ back) ends) (ap (λ v. v.order) steps)
    (omega (arith, same_length, holds.most)) (omega (arith, same_length, holds.fits)) (room ∙ holds.order_room ∙ sym same_length)
    (ap (λ v. v.room) steps ∙ holds.steps_room ∙ sym same_length)
    (all_remove (λ x. x < length old.slots.items) (start ++ heir.0 ∷ []) place back
    (subst (AllByRecursion (λ x. x < length old.slots.items)) split holds.within))
    (subst (λ n. AreBucketed old.slots.items after n ((start ++ heir.0 ∷ []) ++ back) old.steps.order) (sym same_length) result)

-- the only entry of a bucket
pub arena_given_back : (old new : Arena) (front : List ℕ) (place : ℕ) (back low high : List ℕ) → IsArena old
    → old.order.order ≡ front ++ place ∷ back → old.steps.order ≡ low ++ bucket_of old.slots.items place ∷ high
    → AllByRecursion (λ x. bucket_of old.slots.items x ≢ bucket_of old.slots.items place) (front ++ back)
    → bucket_of old.slots.items place < length old.buckets.items
    → new.slots ≡ old.slots → new.buckets.items ≡ given_back old.buckets.items (bucket_of old.slots.items place)
    → new.order.room ≡ old.order.room → new.order.order ≡ front ++ back
    → new.steps.room ≡ old.steps.room → new.steps.order ≡ (low ++ high) ++ bucket_of old.slots.items place ∷ [] → IsArena new
arena_given_back old new front place back low high holds is steps_is alone within slots buckets room order steps_room steps =
    let bs = old.buckets.items in
    let b = bucket_of old.slots.items place in
    let written : Bucket = record { count = free_count; last = (get_or bs b no_bucket).last } in
    let after = set bs b written in
    let same_length : length after ≡ length bs = length-set bs b written in
    let linked = subst (λ l. AreBucketed old.slots.items bs (length bs) l (low ++ b ∷ high)) is
    (subst (AreBucketed old.slots.items bs (length bs) old.order.order) steps_is holds.linked) in
    let result : AreBucketed old.slots.items after (length bs) (front ++ back) ((low ++ high) ++ b ∷ []) =
    bucketed_given_back (bucket_of old.slots.items) (count_of bs) (last_of bs) (count_of after) (last_of after) (length bs) front place back low high
    linked alone (ap (λ (k : Bucket). k.count) (arena_bucket_written bs b written within))
    (λ other apart. ap (λ (k : Bucket). k.count) (arena_bucket_elsewhere bs b other written apart))
    (λ other apart. ap (λ (k : Bucket). k.last.0) (arena_bucket_elsewhere bs b other written apart)) in
    arena_of_parts new old.slots.items after (front ++ back) ((low ++ high) ++ b ∷ []) (ap (λ v. v.items) slots) buckets order steps
    (omega (arith, same_length, holds.most)) (omega (arith, same_length, holds.fits)) (room ∙ holds.order_room ∙ sym same_length)
    (steps_room ∙ holds.steps_room ∙ sym same_length)
    (all_remove (λ x. x < length old.slots.items) front place back (subst (AllByRecursion (λ x. x < length old.slots.items)) is holds.within))
    (subst (λ n. AreBucketed old.slots.items after n (front ++ back) ((low ++ high) ++ b ∷ [])) (sym same_length) result)

-- the others stay as they were
pub arena_taken_with_counts : (old new : Arena) (front : List ℕ) (place : ℕ) (back : List ℕ) → old.order.order ≡ front ++ place ∷ back
    → new.order.order ≡ front ++ back → new.slots ≡ old.slots
    → ((x : ℕ) → IsIn x (front ++ back)
    → count_of new.buckets.items (bucket_of old.slots.items x) ≡ count_of old.buckets.items (bucket_of old.slots.items x))
    → IsTakenOut place old new
arena_taken_with_counts old new front place back before after slots same = record {
  front = front;
  back = back;
  before = before;
  after = after;
  entries = ap (λ v. entries_at v.items new.buckets.items (front ++ back)) slots
      ∙ arena_entries_stay old.slots.items old.slots.items old.buckets.items new.buckets.items (front ++ back)
      (λ x is_in. arena_entry_keeps_count old.slots.items old.buckets.items new.buckets.items x (same x is_in));
}

-- the bucket before the one that was given back
pub arena_bucket_before_freed : (buckets : List Bucket) (low : List ℕ) (b : ℕ) (high : List ℕ) (result : Option BucketNumber) → b < length buckets
    → Pairwise (IsBelow (count_of buckets)) (low ++ b ∷ high) → AllByRecursion (λ x. x < length buckets) (low ++ b ∷ high)
    → MatchOption result (low ≡ []) (λ before. IsLastOf before.0 low)
    → IfSome result (λ before. (before.0 < length buckets) × (count_of (given_back buckets b) before.0 ≤ count_of buckets b))
arena_bucket_before_freed buckets low b high None within pairs below before = tt
arena_bucket_before_freed buckets low b high (Some a) within pairs below before =
    let in_low : IsIn a.0 low = subst (IsIn a.0) (sym before.1) (is_in_between before.0 a.0 []) in
    let lower : IsBelow (count_of buckets) a.0 b = all_at (λ x. IsBelow (count_of buckets) x b) a.0 low
    (pairwise_before (IsBelow (count_of buckets)) low b high pairs) in_low in
    let same : count_of (given_back buckets b) a.0 ≡ count_of buckets a.0 =
    ap (λ (k : Bucket). k.count) (arena_bucket_elsewhere buckets b a.0 (record {
      count = free_count;
      last = (get_or
          buckets b no_bucket).last;
    }) lower.apart) in
    (all_at (λ x. x < length buckets) a.0 (low ++ b ∷ high) below (is_in_front a.0 low (b ∷ high) in_low), omega (arith, same, lower.rises))

-- what a test of two numbers says
pub arena_numbers_differ : (a b : ℕ) → true ≡ not (eqb a b) → a ≢ b
arena_numbers_differ a b is same = let wrong : true ≡ false = is ∙ ap not (eq-eqb a b same) in cc

pub arena_numbers_agree : (a b : ℕ) → false ≡ not (eqb a b) → a ≡ b
arena_numbers_agree a b is =
    (elim (eqb a b) as (λ v. eqb a b ≡ v → false ≡ not v → a ≡ b) [
      | true ↦ λ same _. eqb-true a b same
      | false ↦ λ _ wrong. let no : false ≡ true = wrong in cc
    ]) refl is

-- the bucket before one that was given back, as it is told of the arena
pub arena_bucket_before_given_back : (old new : Arena) (b : ℕ) (result : Option BucketNumber) → IsArena old → b < length old.buckets.items
    → new.buckets.items ≡ given_back old.buckets.items b
    → ((front back : List ℕ) → old.steps.order ≡ front ++ b ∷ back → MatchOption result (front ≡ []) (λ before. IsLastOf before.0 front))
    → IfSome result (λ before. (before.0 < length new.buckets.items) × (count_of new.buckets.items before.0 ≤ count_of old.buckets.items b))
arena_bucket_before_given_back old new b result holds within is before =
    let at = holds.linked.whole b within in
    let bs = old.buckets.items in
    let told = arena_bucket_before_freed bs at.front b at.back result within (subst (Pairwise (IsBelow (count_of bs))) at.is holds.linked.buckets)
    (subst (AllByRecursion (λ x. x < length bs)) at.is holds.linked.within) (before at.front at.back at.is) in
    let same_length : length (given_back bs b) ≡ length bs = length-set bs b (record { count = free_count; last = (get_or bs b no_bucket).last }) in
    subst (λ (l : List Bucket). IfSome result (λ before. (before.0 < length l) × (count_of l before.0 ≤ count_of bs b))) (sym is)
    (IfSome_then result told (λ before parts. (omega (arith, same_length, parts.0), parts.1)))

-- an entry that is the last of its bucket, where the one before it has another bucket
pub arena_taken_is_alone : (old : Arena) (front : List ℕ) (place : ℕ) (back : List ℕ) → IsArena old → old.order.order ≡ front ++ place ∷ back
    → last_of old.buckets.items (bucket_of old.slots.items place) ≡ place
    → ((start : List ℕ) (before : ℕ) → front ≡ start ++ before ∷ [] → bucket_of old.slots.items before ≢ bucket_of old.slots.items place)
    → AllByRecursion (λ x. bucket_of old.slots.items x ≢ bucket_of old.slots.items place) (front ++ back)
arena_taken_is_alone old front place back holds is is_last first =
    let bs = old.buckets.items in
    bucketed_entry_is_alone (bucket_of old.slots.items) (count_of bs) (last_of bs) (length bs) front place back old.steps.order
    (subst (λ l. AreBucketed old.slots.items bs (length bs) l old.steps.order) is holds.linked) is_last first
