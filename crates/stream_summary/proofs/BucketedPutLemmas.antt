-- Entries in buckets after one was put in.
use Rattle.std.proofs.Common.{◌≡◌, ◌≢◌, ℕ, ◌<◌, ◌≤◌, List, ◌∷◌, ◌++◌, sym, ap, ◌∙◌, subst}
use Rattle.std.proofs.Common.{⊎_elim, arith}
use Rattle.std.proofs.lemmas.Bool.{cases_eq}
use Rattle.std.specs.List.{AllByRecursion}
use Rattle.stream_summary.specs.Lists.{Pairwise}
use Rattle.stream_summary.specs.Ring.{IsIn}
use Rattle.stream_summary.specs.Buckets.{AreBucketedBy, GoesBefore, IsBelow, IsInUse, free_count}
use Rattle.stream_summary.proofs.AllInPairwiseLemmas.{all_at, all_map_in, all_remove, all_insert, is_in_remove}
use Rattle.stream_summary.proofs.AllInPairwiseLemmas.{is_in_between}
use Rattle.stream_summary.proofs.AllInPairwiseLemmas.{is_in_front, is_in_back, is_in_insert}
use Rattle.stream_summary.proofs.AllInPairwiseLemmas.{pairwise_remove, pairwise_map_in, pairwise_insert}
use Rattle.stream_summary.proofs.BucketedTakeLemmas.{bucketed_bucket_of_count, bucketed_apart_from_bucket}

-- an entry is put last into a bucket of its count
pub bucketed_joined : (bucket count last bucket_after count_after last_after : ℕ → ℕ) (room b place c : ℕ) (front back steps : List ℕ)
    → AreBucketedBy bucket count last room (front ++ back) steps
    → b < room → count b ≡ c → c < free_count
    → ((x : ℕ) → count_after x ≡ count x) → last_after b ≡ place → ((x : ℕ) → x ≢ b → last_after x ≡ last x)
    → bucket_after place ≡ b → ((x : ℕ) → x ≢ place → bucket_after x ≡ bucket x)
    → AllByRecursion (λ x. x ≢ place) (front ++ back)
    → AllByRecursion (λ x. count (bucket x) ≤ c) front → AllByRecursion (λ x. c < count (bucket x)) back
    → AreBucketedBy bucket_after count_after last_after room (front ++ place ∷ back) steps
bucketed_joined bucket count last bucket_after count_after last_after room b place c front back steps linked within counts few same last_here
    last_there here there apart less greater =
    let R = GoesBefore bucket count last in
    let S = GoesBefore bucket_after count_after last_after in
    let order = front ++ back in
    let other : (x : ℕ) → IsIn x order → x ≢ place = λ x is_in. all_at (λ z. z ≢ place) x order apart is_in in
    let stays : (x : ℕ) → IsIn x order → bucket_after x ≡ bucket x = λ x is_in. there x (other x is_in) in
    let count_stays : (x : ℕ) → IsIn x order → count_after (bucket_after x) ≡ count (bucket x) = λ x is_in.
    ap count_after (stays x is_in) ∙ same (bucket x) in
    let count_here : count_after (bucket_after place) ≡ c = ap count_after here ∙ same b ∙ counts in
    let in_use : (x : ℕ) → IsInUse count_after room x → IsInUse count room x = λ x used. record {
      within = used.within;
      counts = omega (arith, used.counts, same x);
    } in
    let ends_as_before : (x : ℕ) → IsIn x order → last_after (bucket_after x) ≡ x → (bucket x ≢ b) × (last (bucket x) ≡ x) = λ x is_in ends.
    let ends_at : last_after (bucket x) ≡ x = ap last_after (sym (stays x is_in)) ∙ ends in
    let apart_b : bucket x ≢ b = λ its. other x is_in (sym ends_at ∙ ap last_after its ∙ last_here) in
    (apart_b, sym (last_there (bucket x) apart_b) ∙ ends_at) in
    let used_at : (x : ℕ) → IsIn x order → IsInUse count room (bucket x) = λ x is_in. all_at (λ z. IsInUse count room (bucket z)) x order linked.used is_in in
    record {
      entries = pairwise_insert S front place back
          (pairwise_map_in order (λ x y first second (before : R x y).
          let goes : S x y = record {
            apart = before.apart;
            rises = omega (arith, before.rises, count_stays x first, count_stays y second);
            ends = λ ends. let was = ends_as_before x first ends in
                let lower : count (bucket x) < count (bucket y) = before.ends was.1 in
                omega (arith, count_stays x first, count_stays y second);
          } in goes) linked.entries)
          (all_map_in front (λ x is_in (low : count (bucket x) ≤ c).
          let inside : IsIn x order = is_in_front x front back is_in in
          let goes : S x place = record {
            apart = other x inside;
            rises = omega (arith, low, count_stays x inside, count_here);
            ends = λ ends. let was = ends_as_before x inside ends in
                let not_equal : count (bucket x) ≢ c = λ equal. was.0 (bucketed_bucket_of_count count steps (bucket x) b linked.buckets
                (linked.whole (bucket x) (used_at x inside).within) (linked.whole b within) (equal ∙ sym counts) (used_at x inside).counts) in
                omega (arith, low, not_equal, count_stays x inside, count_here);
          } in goes) less)
          (all_map_in back (λ y is_in (high : c < count (bucket y)).
          let inside : IsIn y order = is_in_back y front back is_in in
          let goes : S place y = record {
            apart = λ is. other y inside (sym is);
            rises = omega (arith, high, count_stays y inside, count_here);
            ends = λ ends. omega (arith, high, count_stays y inside, count_here);
          } in goes) greater);
      buckets = pairwise_map_in steps (λ a d first second (below : IsBelow count a d).
          let goes : IsBelow count_after a d = record {
            apart = below.apart;
            rises = omega (arith, below.rises, same a, same d);
            strictly = λ used. let lower : count a < count d = below.strictly (omega (arith, same a)) in omega (arith, same a, same d);
          } in goes) linked.buckets;
      used = all_insert (λ x. IsInUse count_after room (bucket_after x)) front place back
          (all_map_in order (λ x is_in (used : IsInUse count room (bucket x)).
          let goes : IsInUse count_after room (bucket_after x) = record {
            within = subst (λ n. n < room) (sym (stays x is_in)) used.within;
            counts = omega (arith, used.counts, count_stays x is_in);
          } in goes) linked.used)
          (record { within = subst (λ n. n < room) (sym here) within; counts = omega (arith, few, count_here) });
      lasts = λ x used. ⊎_elim
          (λ (its : x ≡ b). subst (λ n. IsIn n (front ++ place ∷ back)) (sym last_here ∙ ap last_after (sym its)) (is_in_between front place back))
          (λ (others : x ≡ b → ⊥). subst (λ n. IsIn n (front ++ place ∷ back)) (sym (last_there x others))
          (is_in_insert (last x) front place back (linked.lasts x (in_use x used))))
          (cases_eq x b);
      own = λ x used. ⊎_elim
          (λ (its : x ≡ b). ap bucket_after (ap last_after its ∙ last_here) ∙ here ∙ sym its)
          (λ (others : x ≡ b → ⊥). ap bucket_after (last_there x others) ∙ stays (last x) (linked.lasts x (in_use x used))
          ∙ linked.own x (in_use x used))
          (cases_eq x b);
      within = linked.within;
      whole = linked.whole;
      most = λ x. omega (arith, same x, linked.most x);
    }

-- an entry is put into a free bucket, which goes to its place among the others
pub bucketed_begun : (bucket count last bucket_after count_after last_after : ℕ → ℕ) (room b place c : ℕ) (front back from to low high : List ℕ)
    → AreBucketedBy bucket count last room (front ++ back) (from ++ b ∷ to) → from ++ to ≡ low ++ high
    → count b ≡ free_count → c < free_count
    → count_after b ≡ c → ((x : ℕ) → x ≢ b → count_after x ≡ count x) → last_after b ≡ place → ((x : ℕ) → x ≢ b → last_after x ≡ last x)
    → bucket_after place ≡ b → ((x : ℕ) → x ≢ place → bucket_after x ≡ bucket x)
    → AllByRecursion (λ x. x ≢ place) (front ++ back)
    → AllByRecursion (λ x. count (bucket x) < c) front → AllByRecursion (λ x. c < count (bucket x)) back
    → AllByRecursion (λ x. count x < c) low → AllByRecursion (λ x. c < count x) high
    → AreBucketedBy bucket_after count_after last_after room (front ++ place ∷ back) (low ++ b ∷ high)
bucketed_begun bucket count last bucket_after count_after last_after room b place c front back from to low high linked steps free few counts same
    last_here last_there here there apart less greater low_less high_greater =
    let R = GoesBefore bucket count last in
    let S = GoesBefore bucket_after count_after last_after in
    let order = front ++ back in
    let others = low ++ high in
    let other : (x : ℕ) → IsIn x order → x ≢ place = λ x is_in. all_at (λ z. z ≢ place) x order apart is_in in
    let stays : (x : ℕ) → IsIn x order → bucket_after x ≡ bucket x = λ x is_in. there x (other x is_in) in
    let used_at : (x : ℕ) → IsIn x order → IsInUse count room (bucket x) = λ x is_in. all_at (λ z. IsInUse count room (bucket z)) x order linked.used is_in in
    let not_free : (x : ℕ) → IsInUse count room x → x ≢ b = λ x used is. omega (arith, used.counts, ap count is) in
    let count_stays : (x : ℕ) → IsIn x order → count_after (bucket_after x) ≡ count (bucket x) = λ x is_in.
    ap count_after (stays x is_in) ∙ same (bucket x) (not_free (bucket x) (used_at x is_in)) in
    let count_here : count_after (bucket_after place) ≡ c = ap count_after here ∙ counts in
    let within : b < room = all_at (λ x. x < room) b (from ++ b ∷ to) linked.within (is_in_between from b to) in
    let in_use : (x : ℕ) → x ≢ b → IsInUse count_after room x → IsInUse count room x = λ x there used. record {
      within = used.within;
      counts = omega (arith, used.counts, same x there);
    } in
    let last_as_before : (x : ℕ) → IsIn x order → last_after (bucket_after x) ≡ x → last (bucket x) ≡ x = λ x is_in ends.
    sym (last_there (bucket x) (not_free (bucket x) (used_at x is_in))) ∙ ap last_after (sym (stays x is_in)) ∙ ends in
    let apart_steps : AllByRecursion (λ x. x ≢ b) others = subst (AllByRecursion (λ x. x ≢ b)) steps
    (bucketed_apart_from_bucket count from b to linked.buckets) in
    let left_steps : Pairwise (IsBelow count) others = subst (Pairwise (IsBelow count)) steps (pairwise_remove (IsBelow count) from b to linked.buckets) in
    let other_step : (x : ℕ) → IsIn x others → x ≢ b = λ x is_in. all_at (λ z. z ≢ b) x others apart_steps is_in in
    record {
      entries = pairwise_insert S front place back
          (pairwise_map_in order (λ x y first second (before : R x y).
          let goes : S x y = record {
            apart = before.apart;
            rises = omega (arith, before.rises, count_stays x first, count_stays y second);
            ends = λ ends. let lower : count (bucket x) < count (bucket y) = before.ends (last_as_before x first ends) in
                omega (arith, count_stays x first, count_stays y second);
          } in goes) linked.entries)
          (all_map_in front (λ x is_in (low : count (bucket x) < c).
          let inside : IsIn x order = is_in_front x front back is_in in
          let goes : S x place = record {
            apart = other x inside;
            rises = omega (arith, low, count_stays x inside, count_here);
            ends = λ ends. omega (arith, low, count_stays x inside, count_here);
          } in goes) less)
          (all_map_in back (λ y is_in (high : c < count (bucket y)).
          let inside : IsIn y order = is_in_back y front back is_in in
          let goes : S place y = record {
            apart = λ is. other y inside (sym is);
            rises = omega (arith, high, count_stays y inside, count_here);
            ends = λ ends. omega (arith, high, count_stays y inside, count_here);
          } in goes) greater);
      buckets = pairwise_insert (IsBelow count_after) low b high
          (pairwise_map_in others (λ a d first second (below : IsBelow count a d).
          let same_a = same a (other_step a first) in
          let same_d = same d (other_step d second) in
          let goes : IsBelow count_after a d = record {
            apart = below.apart;
            rises = omega (arith, below.rises, same_a, same_d);
            strictly = λ used. let lower : count a < count d = below.strictly (omega (arith, same_a)) in omega (arith, same_a, same_d);
          } in goes) left_steps)
          (all_map_in low (λ a is_in (lower : count a < c).
          let there_a = other_step a (is_in_front a low high is_in) in
          let same_a = same a there_a in
          let goes : IsBelow count_after a b = record {
            apart = there_a;
            rises = omega (arith, lower, same_a, counts);
            strictly = λ used. omega (arith, lower, same_a, counts);
          } in goes) low_less)
          (all_map_in high (λ a is_in (higher : c < count a).
          let there_a = other_step a (is_in_back a low high is_in) in
          let same_a = same a there_a in
          let goes : IsBelow count_after b a = record {
            apart = λ is. there_a (sym is);
            rises = omega (arith, higher, same_a, counts);
            strictly = λ used. omega (arith, higher, same_a, counts);
          } in goes) high_greater);
      used = all_insert (λ x. IsInUse count_after room (bucket_after x)) front place back
          (all_map_in order (λ x is_in (used : IsInUse count room (bucket x)).
          let goes : IsInUse count_after room (bucket_after x) = record {
            within = subst (λ n. n < room) (sym (stays x is_in)) used.within;
            counts = omega (arith, used.counts, count_stays x is_in);
          } in goes) linked.used)
          (record { within = subst (λ n. n < room) (sym here) within; counts = omega (arith, few, count_here) });
      lasts = λ x used. ⊎_elim
          (λ (its : x ≡ b). subst (λ n. IsIn n (front ++ place ∷ back)) (sym last_here ∙ ap last_after (sym its)) (is_in_between front place back))
          (λ (others : x ≡ b → ⊥). subst (λ n. IsIn n (front ++ place ∷ back)) (sym (last_there x others))
          (is_in_insert (last x) front place back (linked.lasts x (in_use x others used))))
          (cases_eq x b);
      own = λ x used. ⊎_elim
          (λ (its : x ≡ b). ap bucket_after (ap last_after its ∙ last_here) ∙ here ∙ sym its)
          (λ (others : x ≡ b → ⊥). ap bucket_after (last_there x others) ∙ stays (last x) (linked.lasts x (in_use x others used))
          ∙ linked.own x (in_use x others used))
          (cases_eq x b);
      within = all_insert (λ x. x < room) low b high
          (subst (AllByRecursion (λ x. x < room)) steps (all_remove (λ x. x < room) from b to linked.within)) within;
      whole = λ x below. ⊎_elim
          (λ (its : x ≡ b). subst (λ n. IsIn n (low ++ b ∷ high)) (sym its) (is_in_between low b high))
          (λ (there : x ≡ b → ⊥). is_in_insert x low b high (subst (IsIn x) steps (is_in_remove x from b to there (linked.whole x below))))
          (cases_eq x b);
      most = λ x. ⊎_elim
          (λ (its : x ≡ b). omega (arith, ap count_after its, counts, few))
          (λ (there : x ≡ b → ⊥). omega (arith, same x there, linked.most x))
          (cases_eq x b);
    }
