-- Entries in buckets after one was taken out.
use Rattle.std.proofs.Common.{◌≡◌, ◌≢◌, ℕ, ◌<◌, ◌≤◌, List, [], ◌∷◌, ◌++◌, ◌⊎◌, inl, inr, refl, sym, ap, ◌∙◌, subst}
use Rattle.std.proofs.Common.{⊎_elim, arith, append_assoc}
use Rattle.std.proofs.lemmas.Bool.{cases_eq}
use Rattle.std.proofs.lemmas.List.{append-nil}
use Rattle.std.specs.List.{AllByRecursion}
use Rattle.stream_summary.specs.Lists.{Pairwise}
use Rattle.stream_summary.specs.Ring.{IsIn}
use Rattle.stream_summary.specs.Buckets.{AreBucketedBy, GoesBefore, IsBelow, IsInUse, free_count}
use Rattle.stream_summary.proofs.AllInPairwiseLemmas.{all_at, all_in, all_map_in, all_remove, all_append}
use Rattle.stream_summary.proofs.AllInPairwiseLemmas.{is_in_remove, is_in_between, is_in_front}
use Rattle.stream_summary.proofs.AllInPairwiseLemmas.{is_in_cases, is_in_append_cases, pairwise_remove, pairwise_before}
use Rattle.stream_summary.proofs.AllInPairwiseLemmas.{pairwise_behind, pairwise_map_in, pairwise_insert}
use Rattle.stream_summary.proofs.AllInPairwiseLemmas.{pairwise_front, is_in_none}

-- two buckets stand in their order one way or the other
pub bucketed_below_either : (count : ℕ → ℕ) (steps : List ℕ) (a b : ℕ) → Pairwise (IsBelow count) steps → IsIn a steps → IsIn b steps
    → (a ≡ b) ⊎ (IsBelow count a b ⊎ IsBelow count b a)
bucketed_below_either count steps a b pairs first second =
    let ordered : Pairwise (IsBelow count) (first.front ++ a ∷ first.back) = subst (Pairwise (IsBelow count)) first.is pairs in
    ⊎_elim
    (λ (before : IsIn b first.front).
    inr (inr (all_at (λ x. IsBelow count x a) b first.front (pairwise_before (IsBelow count) first.front a first.back ordered) before)))
    (λ (from : IsIn b (a ∷ first.back)). ⊎_elim
    (λ (here : a ≡ b). inl here)
    (λ (there : IsIn b first.back).
    inr (inl (all_at (IsBelow count a) b first.back (pairwise_behind (IsBelow count) first.front a first.back ordered) there)))
    (is_in_cases b a first.back from))
    (is_in_append_cases b first.front (a ∷ first.back) (subst (IsIn b) first.is second))

-- buckets in use that have the same count are the same
pub bucketed_bucket_of_count : (count : ℕ → ℕ) (steps : List ℕ) (a b : ℕ) → Pairwise (IsBelow count) steps → IsIn a steps → IsIn b steps
    → count a ≡ count b → count a < free_count → a ≡ b
bucketed_bucket_of_count count steps a b pairs first second same used =
    ⊎_elim
    (λ (here : a ≡ b). here)
    (λ (apart : IsBelow count a b ⊎ IsBelow count b a). ⊎_elim
    (λ (below : IsBelow count a b). let less : count a < count b = below.strictly used in absurd (omega arith))
    (λ (above : IsBelow count b a). let less : count b < count a = above.strictly (omega arith) in absurd (omega arith))
    apart)
    (bucketed_below_either count steps a b pairs first second)

-- entries stand apart from one of them
pub bucketed_apart_from_entry : (bucket count last : ℕ → ℕ) (front : List ℕ) (place : ℕ) (back : List ℕ)
    → Pairwise (GoesBefore bucket count last) (front ++ place ∷ back) → AllByRecursion (λ other. other ≢ place) (front ++ back)
bucketed_apart_from_entry bucket count last front place back pairs =
    let R = GoesBefore bucket count last in
    all_append (λ other. other ≢ place) front back
    (all_map_in front (λ x is_in (before : GoesBefore bucket count last x place). before.apart) (pairwise_before R front place back pairs))
    (all_map_in back (λ x is_in (behind : GoesBefore bucket count last place x). λ same. behind.apart (sym same))
    (pairwise_behind R front place back pairs))

pub bucketed_apart_from_bucket : (count : ℕ → ℕ) (front : List ℕ) (b : ℕ) (back : List ℕ) → Pairwise (IsBelow count) (front ++ b ∷ back)
    → AllByRecursion (λ other. other ≢ b) (front ++ back)
bucketed_apart_from_bucket count front b back pairs =
    all_append (λ other. other ≢ b) front back
    (all_map_in front (λ x is_in (before : IsBelow count x b). before.apart) (pairwise_before (IsBelow count) front b back pairs))
    (all_map_in back (λ x is_in (behind : IsBelow count b x). λ same. behind.apart (sym same)) (pairwise_behind (IsBelow count) front b back pairs))

-- an entry that isn't the last of its bucket is taken out
pub bucketed_without : (bucket count last : ℕ → ℕ) (room : ℕ) (front : List ℕ) (place : ℕ) (back steps : List ℕ)
    → AreBucketedBy bucket count last room (front ++ place ∷ back) steps → last (bucket place) ≢ place
    → AreBucketedBy bucket count last room (front ++ back) steps
bucketed_without bucket count last room front place back steps linked more = record {
  entries = pairwise_remove (GoesBefore bucket count last) front place back linked.entries;
  buckets = linked.buckets;
  used = all_remove (λ x. IsInUse count room (bucket x)) front place back linked.used;
  lasts = λ b in_use. is_in_remove (last b) front place back
      (λ same. more (ap last (ap bucket (sym same) ∙ linked.own b in_use) ∙ same)) (linked.lasts b in_use);
  own = linked.own;
  within = linked.within;
  whole = linked.whole;
  most = linked.most;
}

-- the last entry of a bucket is taken out, and the one before it is the last one now
pub bucketed_new_last : (bucket count last count_after last_after : ℕ → ℕ) (room : ℕ) (start : List ℕ) (heir place : ℕ) (back steps : List ℕ)
    → AreBucketedBy bucket count last room ((start ++ heir ∷ []) ++ place ∷ back) steps
    → last (bucket place) ≡ place → bucket heir ≡ bucket place
    → ((b : ℕ) → count_after b ≡ count b) → last_after (bucket place) ≡ heir → ((b : ℕ) → b ≢ bucket place → last_after b ≡ last b)
    → AreBucketedBy bucket count_after last_after room ((start ++ heir ∷ []) ++ back) steps
bucketed_new_last bucket count last count_after last_after room start heir place back steps linked is_last together same here there =
    let R = GoesBefore bucket count last in
    let S = GoesBefore bucket count_after last_after in
    let front = start ++ heir ∷ [] in
    let at_end : front ++ back ≡ start ++ heir ∷ back = append_assoc start (heir ∷ []) back in
    let left : Pairwise R (start ++ heir ∷ back) = subst (Pairwise R) at_end (pairwise_remove R front place back linked.entries) in
    let from_place : AllByRecursion (R place) back = pairwise_behind R front place back linked.entries in
    let apart = bucketed_apart_from_entry bucket count last start heir back left in
    let keeps : (x y : ℕ) → x ≢ heir → R x y → S x y = λ x y other before. record {
      apart = before.apart;
      rises = omega (arith, before.rises, same (bucket x), same (bucket y));
      ends = λ ends. ⊎_elim
          (λ (its : bucket x ≡ bucket place). absurd (other (sym ends ∙ ap last_after its ∙ here)))
          (λ (others : bucket x ≡ bucket place → ⊥).
          let less : count (bucket x) < count (bucket y) = before.ends (sym (there (bucket x) others) ∙ ends) in
          omega (arith, same (bucket x), same (bucket y)))
          (cases_eq (bucket x) (bucket place));
    } in
    let entries_after : Pairwise S (start ++ heir ∷ back) = pairwise_insert S start heir back
    (pairwise_map_in (start ++ back) (λ x y first second before. keeps x y (all_at (λ z. z ≢ heir) x (start ++ back) apart first) before)
    (pairwise_remove R start heir back left))
    (all_map_in start (λ x is_in (before : R x heir). keeps x heir before.apart before) (pairwise_before R start heir back left))
    (all_map_in back (λ y is_in (behind : R place y).
    let first : R heir y = all_at (R heir) y back (pairwise_behind R start heir back left) is_in in
    let less : count (bucket place) < count (bucket y) = behind.ends is_last in
    let goes : S heir y = record {
      apart = first.apart;
      rises = omega (arith, first.rises, same (bucket heir), same (bucket y));
      ends = λ ends. omega (arith, same (bucket heir), same (bucket y), ap count together);
    } in goes) from_place) in
    let in_use : (b : ℕ) → IsInUse count_after room b → IsInUse count room b = λ b used. record {
      within = used.within;
      counts = omega (arith, used.counts, same b);
    } in
    record {
      entries = subst (Pairwise S) (sym at_end) entries_after;
      buckets = pairwise_map_in steps (λ a b first second (below : IsBelow count a b). record {
        apart = below.apart;
        rises = omega (arith, below.rises, same a, same b);
        strictly = λ used. let less : count a < count b = below.strictly (omega (arith, same a)) in omega (arith, same a, same b);
      }) linked.buckets;
      used = all_map_in (front ++ back) (λ x is_in (used : IsInUse count room (bucket x)). record {
        within = used.within;
        counts = omega (arith, used.counts, same (bucket x));
      }) (all_remove (λ x. IsInUse count room (bucket x)) front place back linked.used);
      lasts = λ b used. ⊎_elim
          (λ (its : b ≡ bucket place). subst (λ n. IsIn n (front ++ back)) (sym here ∙ ap last_after (sym its))
          (subst (IsIn heir) (sym at_end) (is_in_between start heir back)))
          (λ (others : b ≡ bucket place → ⊥). subst (λ n. IsIn n (front ++ back)) (sym (there b others))
          (is_in_remove (last b) front place back (λ is. others (sym (linked.own b (in_use b used)) ∙ ap bucket is)) (linked.lasts b (in_use b used))))
          (cases_eq b (bucket place));
      own = λ b used. ⊎_elim
          (λ (its : b ≡ bucket place). ap bucket (ap last_after its ∙ here) ∙ together ∙ sym its)
          (λ (others : b ≡ bucket place → ⊥). ap bucket (there b others) ∙ linked.own b (in_use b used))
          (cases_eq b (bucket place));
      within = linked.within;
      whole = linked.whole;
      most = λ b. omega (arith, same b, linked.most b);
    }

-- the only entry of a bucket is taken out, and the bucket is free now
pub bucketed_given_back : (bucket count last count_after last_after : ℕ → ℕ) (room : ℕ) (front : List ℕ) (place : ℕ) (back low high : List ℕ)
    → AreBucketedBy bucket count last room (front ++ place ∷ back) (low ++ bucket place ∷ high)
    → AllByRecursion (λ x. bucket x ≢ bucket place) (front ++ back)
    → count_after (bucket place) ≡ free_count → ((b : ℕ) → b ≢ bucket place → count_after b ≡ count b)
    → ((b : ℕ) → b ≢ bucket place → last_after b ≡ last b)
    → AreBucketedBy bucket count_after last_after room (front ++ back) ((low ++ high) ++ bucket place ∷ [])
bucketed_given_back bucket count last count_after last_after room front place back low high linked alone free same lasts =
    let R = GoesBefore bucket count last in
    let S = GoesBefore bucket count_after last_after in
    let mine = bucket place in
    let apart = bucketed_apart_from_bucket count low mine high linked.buckets in
    let all_most : (b : ℕ) → count_after b ≤ free_count = λ b. ⊎_elim
    (λ (its : b ≡ mine). omega (arith, ap count_after its))
    (λ (others : b ≡ mine → ⊥). omega (arith, same b others, linked.most b))
    (cases_eq b mine) in
    let other : (b : ℕ) → IsInUse count_after room b → b ≢ mine = λ b used is. omega (arith, used.counts, ap count_after is) in
    let in_use : (b : ℕ) → IsInUse count_after room b → IsInUse count room b = λ b used. record {
      within = used.within;
      counts = omega (arith, used.counts, same b (other b used));
    } in
    record {
      entries = pairwise_map_in (front ++ back) (λ x y first second (before : R x y).
          let mine_x = same (bucket x) (all_at (λ z. bucket z ≢ mine) x (front ++ back) alone first) in
          let mine_y = same (bucket y) (all_at (λ z. bucket z ≢ mine) y (front ++ back) alone second) in
          let goes : S x y = record {
            apart = before.apart;
            rises = omega (arith, before.rises, mine_x, mine_y);
            ends = λ ends.
                let less : count (bucket x) < count (bucket y) =
                before.ends (sym (lasts (bucket x) (all_at (λ z. bucket z ≢ mine) x (front ++ back) alone first)) ∙ ends) in
                omega (arith, mine_x, mine_y);
          } in goes) (pairwise_remove R front place back linked.entries);
      buckets = pairwise_insert (IsBelow count_after) (low ++ high) mine []
          (subst (Pairwise (IsBelow count_after)) (sym (append-nil (low ++ high)))
          (pairwise_map_in (low ++ high) (λ a b first second (below : IsBelow count a b).
          let same_a = same a (all_at (λ z. z ≢ mine) a (low ++ high) apart first) in
          let same_b = same b (all_at (λ z. z ≢ mine) b (low ++ high) apart second) in
          let goes : IsBelow count_after a b = record {
            apart = below.apart;
            rises = omega (arith, below.rises, same_a, same_b);
            strictly = λ used. let less : count a < count b = below.strictly (omega (arith, same_a)) in omega (arith, same_a, same_b);
          } in goes) (pairwise_remove (IsBelow count) low mine high linked.buckets)))
          (all_map_in (low ++ high) (λ a is_in (there : a ≢ mine).
          let goes : IsBelow count_after a mine = record {
            apart = there;
            rises = omega (arith, free, all_most a);
            strictly = λ used. omega (arith, free);
          } in goes) apart)
          tt;
      used = all_map_in (front ++ back) (λ x is_in (used : IsInUse count room (bucket x)). record {
        within = used.within;
        counts = omega (arith, used.counts, same (bucket x) (all_at (λ z. bucket z ≢ mine) x (front ++ back) alone is_in));
      }) (all_remove (λ x. IsInUse count room (bucket x)) front place back linked.used);
      lasts = λ b used. subst (λ n. IsIn n (front ++ back)) (sym (lasts b (other b used)))
          (is_in_remove (last b) front place back (λ is. other b used (sym (linked.own b (in_use b used)) ∙ ap bucket is)) (linked.lasts b (in_use b used)));
      own = λ b used. ap bucket (lasts b (other b used)) ∙ linked.own b (in_use b used);
      within = all_append (λ b. b < room) (low ++ high) (mine ∷ []) (all_remove (λ b. b < room) low mine high linked.within)
          (all_at (λ b. b < room) mine (low ++ mine ∷ high) linked.within (is_in_between low mine high), tt);
      whole = λ b below. ⊎_elim
          (λ (its : b ≡ mine). subst (λ n. IsIn n ((low ++ high) ++ mine ∷ [])) (sym its) (is_in_between (low ++ high) mine []))
          (λ (others : b ≡ mine → ⊥). is_in_front b (low ++ high) (mine ∷ []) (is_in_remove b low mine high others (linked.whole b below)))
          (cases_eq b mine);
      most = all_most;
    }

-- a list is empty or has a last element
pub bucketed_ends_with : (xs : List ℕ) → (xs ≡ []) ⊎ ((start : List ℕ) × (end : ℕ) × (xs ≡ start ++ end ∷ []))
bucketed_ends_with [] = inl refl
bucketed_ends_with (x ∷ xs) =
    ⊎_elim
    (λ (none : xs ≡ []). inr ([], x, ap (λ l. x ∷ l) none))
    (λ (some : (start : List ℕ) × (end : ℕ) × (xs ≡ start ++ end ∷ [])). inr (x ∷ some.0, some.1, ap (λ l. x ∷ l) some.2))
    (bucketed_ends_with xs)

-- no entry before one has its bucket where the one right before it hasn't
bucketed_alone_in_front : (bucket count last : ℕ → ℕ) (room : ℕ) (front : List ℕ) (place : ℕ) (back steps : List ℕ)
    → AreBucketedBy bucket count last room (front ++ place ∷ back) steps
    → ((start : List ℕ) (before : ℕ) → front ≡ start ++ before ∷ [] → bucket before ≢ bucket place)
    → (x : ℕ) → IsIn x front → bucket x ≢ bucket place
bucketed_alone_in_front bucket count last room front place back steps linked first x is_in same =
    let R = GoesBefore bucket count last in
    let pairs = linked.entries in
    let to_place : AllByRecursion (λ z. R z place) front = pairwise_before R front place back pairs in
    ⊎_elim
    (λ (none : front ≡ []). is_in_none x (subst (IsIn x) none is_in))
    (λ (some : (start : List ℕ) × (end : ℕ) × (front ≡ start ++ end ∷ [])).
    let other : bucket some.1 ≢ bucket place = first some.0 some.1 some.2 in
    let in_front : IsIn some.1 front = subst (IsIn some.1) (sym some.2) (is_in_between some.0 some.1 []) in
    let end_first : R some.1 place = all_at (λ z. R z place) some.1 front to_place in_front in
    let end_used : IsInUse count room (bucket some.1) = all_at (λ z. IsInUse count room (bucket z)) some.1 (front ++ place ∷ back) linked.used
    (is_in_front some.1 front (place ∷ back) in_front) in
    let here_used : IsInUse count room (bucket place) = all_at (λ z. IsInUse count room (bucket z)) place (front ++ place ∷ back) linked.used
    (is_in_between front place back) in
    ⊎_elim
    (λ (before : IsIn x some.0).
    let goes : R x some.1 = all_at (λ z. R z some.1) x some.0 (pairwise_before R some.0 some.1 []
    (subst (Pairwise R) some.2 (pairwise_front R front (place ∷ back) pairs))) before in
    other (bucketed_bucket_of_count count steps (bucket some.1) (bucket place) linked.buckets (linked.whole (bucket some.1) end_used.within)
    (linked.whole (bucket place) here_used.within)
    (omega (arith, end_first.rises, goes.rises, ap count same)) end_used.counts))
    (λ (from : IsIn x (some.1 ∷ [])). ⊎_elim
    (λ (here : some.1 ≡ x). other (ap bucket here ∙ same))
    (λ (there : IsIn x []). is_in_none x there)
    (is_in_cases x some.1 [] from))
    (is_in_append_cases x some.0 (some.1 ∷ []) (subst (IsIn x) some.2 is_in)))
    (bucketed_ends_with front)

-- the last entry of a bucket is its only one where the one before it, if any, has another bucket
pub bucketed_entry_is_alone : (bucket count last : ℕ → ℕ) (room : ℕ) (front : List ℕ) (place : ℕ) (back steps : List ℕ)
    → AreBucketedBy bucket count last room (front ++ place ∷ back) steps → last (bucket place) ≡ place
    → ((start : List ℕ) (before : ℕ) → front ≡ start ++ before ∷ [] → bucket before ≢ bucket place)
    → AllByRecursion (λ x. bucket x ≢ bucket place) (front ++ back)
bucketed_entry_is_alone bucket count last room front place back steps linked is_last first =
    let R = GoesBefore bucket count last in
    let behind : AllByRecursion (R place) back = pairwise_behind R front place back linked.entries in
    all_append (λ x. bucket x ≢ bucket place) front back
    (all_in (λ x. bucket x ≢ bucket place) front (λ x is_in. bucketed_alone_in_front bucket count last room front place back steps linked first x is_in))
    (all_map_in back (λ y is_in (goes : R place y). λ same. let less : count (bucket place) < count (bucket y) = goes.ends is_last in
    omega (arith, ap count same)) behind)
