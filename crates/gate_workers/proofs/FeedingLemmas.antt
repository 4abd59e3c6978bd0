-- What feeding keeps: nothing done, one try, and one after another.
use Rattle.std.proofs.Common.{◌≡◌, ℕ, zero, suc, ◌+◌, ◌-◌, ◌/◌, ◌%◌, ◌<◌, ◌≤◌, ◌⊎◌, inl, inr, ⊎_elim, min, Bool}
use Rattle.std.proofs.Common.{true, false, ◌&&◌, IsTrue, List, [], ◌∷◌, ◌++◌, append-nil, append_assoc, map, length}
use Rattle.std.proofs.Common.{slice_get, Some, refl, sym, ap, ap₂, ◌∙◌, arith, subst}
use Rattle.std.specs.Prelude.{slice_index}
use Rattle.std.proofs.Math.Nat.{add-mod_right, mod-eq_of_lt}
use Rattle.std.proofs.lemmas.Bool.{cases_eq}
use Rattle.std.proofs.lemmas.List.Elements.{All-nil, All-cons, All-append}
use Rattle.std.proofs.lemmas.Option.{same_Some, slice_get_within}
use Rattle.shard_state.specs.{ShardValue, changed_in}
use Rattle.shard_state.specs.declared.shard_state.Folded.{Folded}
use Rattle.position_words.specs.declared.view.Trail.{Trail}
use Rattle.position_words.specs.declared.view.View.{View}
use Rattle.pass_tokens.specs.{Folds, IsFoldOf, IsOddWord, StepLoses, folded_once, trail_after_loss}
use Rattle.pass_tokens.specs.{seen_in, with_trail}
use Rattle.gate_workers.specs.Feeding.{IsFed, Feeds, HasSeenEnd, HasSeenEnds}

-- a trail that stays the same
feeding_of_same_trail : (opening : List ShardValue) (shard block : ℕ) (trail : Trail) → IsFed opening shard block trail trail
feeding_of_same_trail opening shard block trail = record {
  folds = [];
  losses = [];
  core = All-nil (IsFoldOf opening shard block);
  odd = All-nil IsOddWord;
  later = omega arith;
  is =
      ap₂ (λ folds losses. record trail { folds = folds; losses = losses }) (sym (append-nil trail.folds))
      (sym (append-nil trail.losses));
}

-- a trail with one more fold
feeding_of_folded_trail : (opening : List ShardValue) (shard block : ℕ) (trail : Trail) (done : Folded)
    → IsFoldOf opening shard block done → trail.seen ≤ done.from
    → IsFed opening shard block trail (folded_once done trail)
feeding_of_folded_trail opening shard block trail done core seen = record {
  folds = done ∷ [];
  losses = [];
  core = All-cons (IsFoldOf opening shard block) done [] core (All-nil (IsFoldOf opening shard block));
  odd = All-nil IsOddWord;
  later = omega (arith, seen, core.forward);
  is =
      ap (λ losses. record trail { seen = done.to; folds = trail.folds ++ done ∷ []; losses = losses })
      (sym (append-nil trail.losses));
}

-- a trail with one more loss
feeding_of_lost_trail : (opening : List ShardValue) (shard block : ℕ) (trail : Trail) (word : ℕ) → IsOddWord word
    → trail.seen ≤ word / 2 → IsFed opening shard block trail (trail_after_loss word trail)
feeding_of_lost_trail opening shard block trail word odd seen = record {
  folds = [];
  losses = word ∷ [];
  core = All-nil (IsFoldOf opening shard block);
  odd = All-cons IsOddWord word [] odd (All-nil IsOddWord);
  later = seen;
  is =
      ap (λ folds. record trail { seen = word / 2; folds = folds; losses = trail.losses ++ word ∷ [] })
      (sym (append-nil trail.folds));
}

-- fed, and fed again
feeding_of_trail_goes_on : (opening : List ShardValue) (shard block : ℕ) (before middle now : Trail)
    → IsFed opening shard block before middle → IsFed opening shard block middle now
    → IsFed opening shard block before now
feeding_of_trail_goes_on opening shard block before middle now first second = record {
  folds = first.folds ++ second.folds;
  losses = first.losses ++ second.losses;
  core = All-append (IsFoldOf opening shard block) first.folds second.folds first.core second.core;
  odd = All-append IsOddWord first.losses second.losses first.odd second.odd;
  later = omega (arith, first.later, second.later);
  is = second.is
      ∙ ap (λ (t : Trail). record t {
        seen = now.seen;
        folds = t.folds ++ second.folds;
        losses = t.losses ++ second.losses;
      }) first.is
      ∙ ap₂ (λ folds losses. record before { seen = now.seen; folds = folds; losses = losses })
      (append_assoc before.folds first.folds second.folds)
      (append_assoc before.losses first.losses second.losses);
}

-- what was seen of a shard is in its trail
seen_by_feeding_trail : (trails : List Trail) (shard : ℕ) (trail : Trail) → slice_get trails shard ≡ Some trail
    → slice_index (map (λ trail. trail.seen) trails) shard ≡ trail.seen
seen_by_feeding_trail [] shard trail is = cc is
seen_by_feeding_trail (first ∷ rest) zero trail is = ap (λ (t : Trail). t.seen) (same_Some first trail is)
seen_by_feeding_trail (first ∷ rest) (suc shard) trail is = seen_by_feeding_trail rest shard trail is

feeding_shard_has_trail : (trails : List Trail) (shard : ℕ) → shard < length trails
    → (trail : Trail) × (slice_get trails shard ≡ Some trail)
feeding_shard_has_trail [] shard inside = absurd (omega arith)
feeding_shard_has_trail (trail ∷ rest) zero inside = (trail, refl)
feeding_shard_has_trail (trail ∷ rest) (suc shard) inside = feeding_shard_has_trail rest shard (omega arith)

feeding_changes_one_trail : (change : Trail → Trail) (place : ℕ) (trails : List Trail) (shard : ℕ) (trail later : Trail)
    → slice_get trails shard ≡ Some trail
    → slice_get (changed_in change place trails) shard ≡ Some later
    → ((shard ≡ place) × (later ≡ change trail)) ⊎ (later ≡ trail)
feeding_changes_one_trail change place [] shard trail later is now = cc is
feeding_changes_one_trail change zero (first ∷ rest) zero trail later is now =
    inl (refl, sym (same_Some (change first) later now) ∙ ap change (same_Some first trail is))
feeding_changes_one_trail change zero (first ∷ rest) (suc shard) trail later is now = inr (same_Some later trail (sym now ∙ is))
feeding_changes_one_trail change (suc place) (first ∷ rest) zero trail later is now = inr (same_Some later trail (sym now ∙ is))
feeding_changes_one_trail change (suc place) (first ∷ rest) (suc shard) trail later is now =
    ⊎_elim (λ here. inl (ap suc here.0, here.1)) (λ there. inr there)
    (feeding_changes_one_trail change place rest shard trail later is now)

feeding_change-length : (change : Trail → Trail) (place : ℕ) (trails : List Trail)
    → length (changed_in change place trails) ≡ length trails
feeding_change-length change place [] = refl
feeding_change-length change zero (trail ∷ rest) = refl
feeding_change-length change (suc place) (trail ∷ rest) = ap suc (feeding_change-length change place rest)

pub feeding_of_same_view : (opening : List ShardValue) (block : ℕ) (view : View) → Feeds opening block view view
feeding_of_same_view opening block view = record {
  same = refl;
  as_many = refl;
  trails = λ shard trail later is now.
      subst (λ (t : Trail). IsFed opening shard block trail t) (same_Some trail later (sym is ∙ now))
      (feeding_of_same_trail opening shard block trail);
}

-- a step at one shard
feeding_at_one_shard : (opening : List ShardValue) (block place : ℕ) (before now : View) (change : Trail → Trail)
    → now ≡ with_trail change place before
    → ((trail : Trail) → slice_get before.trails place ≡ Some trail
    → IsFed opening place block trail (change trail)) → Feeds opening block before now
feeding_at_one_shard opening block place before now change is fed =
    let trails_are : now.trails ≡ changed_in change place before.trails = ap (λ (v : View). v.trails) is in
    record {
      same = is ∙ ap (λ ts. record before { trails = ts }) (sym trails_are);
      as_many = ap length trails_are ∙ feeding_change-length change place before.trails;
      trails = λ shard trail later was now_is.
          ⊎_elim
          (λ here. subst (λ (t : Trail). IsFed opening shard block trail t) (sym here.1)
          (subst (λ k. slice_get before.trails k ≡ Some trail → IsFed opening k block trail (change trail))
          (sym here.0) (fed trail) was))
          (λ there.
          subst (λ (t : Trail). IsFed opening shard block trail t) (sym there)
          (feeding_of_same_trail opening shard block trail))
          (feeding_changes_one_trail change place before.trails shard trail later was
          (ap (λ ts. slice_get ts shard) (sym trails_are) ∙ now_is));
    }

pub feeding_by_fold : (opening : List ShardValue) (shard block : ℕ) (before now : View) (done : Folded)
    → Folds opening shard block before now done → Feeds opening block before now
feeding_by_fold opening shard block before now done folds =
    feeding_at_one_shard opening block shard before now (folded_once done) folds.view
    (λ trail is.
    feeding_of_folded_trail opening shard block trail done folds.core
    (omega (arith, seen_by_feeding_trail before.trails shard trail is, folds.later)))

pub feeding_by_loss : (opening : List ShardValue) (shard block : ℕ) (before now : View) → StepLoses shard before now
    → Feeds opening block before now
feeding_by_loss opening shard block before now loses =
    feeding_at_one_shard opening block shard before now (trail_after_loss loses.word) loses.view
    (λ trail is.
    feeding_of_lost_trail opening shard block trail loses.word loses.odd
    (omega (arith, seen_by_feeding_trail before.trails shard trail is, loses.meets.later)))

pub feeding_goes_on : (opening : List ShardValue) (block : ℕ) (before middle now : View)
    → Feeds opening block before middle → Feeds opening block middle now → Feeds opening block before now
feeding_goes_on opening block before middle now first second = record {
  same = second.same ∙ ap (λ (v : View). record v { trails = now.trails }) first.same;
  as_many = second.as_many ∙ first.as_many;
  trails = λ shard trail later was now_is.
      let inside : shard < length middle.trails =
      let below : shard < length before.trails = slice_get_within before.trails shard trail was in
      omega (arith, first.as_many) in
      let found = feeding_shard_has_trail middle.trails shard inside in
      feeding_of_trail_goes_on opening shard block trail found.0 later (first.trails shard trail found.0 was found.1)
      (second.trails shard found.0 later found.1 now_is);
}

-- what was seen never falls
pub feeding_seen_never_falls : (opening : List ShardValue) (block shard : ℕ) (before now : View) → shard < length before.trails
    → Feeds opening block before now → seen_in shard before ≤ seen_in shard now
feeding_seen_never_falls opening block shard before now inside feeds =
    let was = feeding_shard_has_trail before.trails shard inside in
    let is = feeding_shard_has_trail now.trails shard (omega (arith, inside, feeds.as_many)) in
    let fed : IsFed opening shard block was.0 is.0 = feeds.trails shard was.0 is.0 was.1 is.1 in
    omega (arith, seen_by_feeding_trail before.trails shard was.0 was.1, seen_by_feeding_trail now.trails shard is.0 is.1, fed.later)

-- a fold that moved nothing was at the end
feeding_sees_changed_position : (change : Trail → Trail) (position place : ℕ) (trails : List Trail)
    → ((trail : Trail) → (change trail).seen ≡ position) → place < length trails
    → slice_index (map (λ trail. trail.seen) (changed_in change place trails)) place ≡ position
feeding_sees_changed_position change position place [] sees inside = absurd (omega arith)
feeding_sees_changed_position change position zero (trail ∷ rest) sees inside = sees trail
feeding_sees_changed_position change position (suc place) (trail ∷ rest) sees inside =
    feeding_sees_changed_position change position place rest sees (omega arith)

pub feeding_is_at_end : (opening : List ShardValue) (shard block : ℕ) (before now : View) (done : Folded) → 1 ≤ block
    → shard < length before.trails → Folds opening shard block before now done
    → done.from ≡ done.to → HasSeenEnd opening shard now
feeding_is_at_end opening shard block before now done some inside folds still state is =
    let same : folds.core.state ≡ state = same_Some folds.core.state state (sym folds.core.is ∙ is) in
    let position : done.to ≡ min (length folds.core.state.list) (done.from + block) =
    ap (λ (s : ShardValue). s.position) folds.core.core in
    let seen : seen_in shard now ≡ done.to =
    ap (seen_in shard) folds.view
    ∙ feeding_sees_changed_position (folded_once done) done.to shard before.trails (λ trail. refl) inside in
    subst (λ (s : ShardValue). length s.list ≤ seen_in shard now) same (omega (arith, some, still, position, seen))

pub feeding_stays_at_end : (opening : List ShardValue) (block shard : ℕ) (before now : View)
    → length before.trails ≡ length opening → Feeds opening block before now
    → HasSeenEnd opening shard before → HasSeenEnd opening shard now
feeding_stays_at_end opening block shard before now many feeds ends state is =
    let below : shard < length opening = slice_get_within opening shard state is in
    let rises : seen_in shard before ≤ seen_in shard now =
    feeding_seen_never_falls opening block shard before now (omega (arith, many, below)) feeds in
    let end : length state.list ≤ seen_in shard before = ends state is in
    omega (arith, rises, end)

-- both of two tests
pub feeding_tests_both_hold : (a b : Bool) → IsTrue (a && b) → IsTrue a × IsTrue b
feeding_tests_both_hold true true holds = (holds, holds)
feeding_tests_both_hold true false holds = cc holds
feeding_tests_both_hold false true holds = cc holds
feeding_tests_both_hold false false holds = cc holds

-- one more shard of a round is at its end
pub feeding_round_goes_on : (opening : List ShardValue) (shards first turn : ℕ) (view : View)
    → ((earlier : ℕ) → earlier < turn → HasSeenEnd opening ((first + earlier) % shards) view)
    → HasSeenEnd opening ((first + turn) % shards) view → (earlier : ℕ) → earlier < turn + 1
    → HasSeenEnd opening ((first + earlier) % shards) view
feeding_round_goes_on opening shards first turn view before here earlier below =
    elim (cases_eq earlier turn) [
      | inl same ↦ subst (λ k. HasSeenEnd opening ((first + k) % shards) view) (sym same) here
      | inr apart ↦ before earlier (omega (arith, below, apart))
    ]

feeding_shard_before_or_after : (m n : ℕ) → (m ≤ n) ⊎ (n < m)
feeding_shard_before_or_after zero n = inl (omega arith)
feeding_shard_before_or_after (suc m) zero = inr (omega arith)
feeding_shard_before_or_after (suc m) (suc n) = ⊎_elim (λ le. inl (omega arith)) (λ lt. inr (omega arith)) (feeding_shard_before_or_after m n)

-- a round reaches each shard
feeding_round_reaches_shard : (shards first shard : ℕ) → first < shards → shard < shards
    → (turn : ℕ) × (turn < shards) × ((first + turn) % shards ≡ shard)
feeding_round_reaches_shard shards first shard inside below = ⊎_elim later sooner (feeding_shard_before_or_after first shard)
  where
    later : first ≤ shard → (turn : ℕ) × (turn < shards) × ((first + turn) % shards ≡ shard)
    later le = (shard - first, omega arith, ap (λ k. k % shards) (sum le) ∙ mod-eq_of_lt below)
      where
        sum : first ≤ shard → first + (shard - first) ≡ shard
        sum le = omega arith

    sooner : shard < first → (turn : ℕ) × (turn < shards) × ((first + turn) % shards ≡ shard)
    sooner lt = (
      shard + shards - first,
      omega arith,
      ap (λ k. k % shards) (sum lt) ∙ add-mod_right shard shards ∙ mod-eq_of_lt below,
    )
      where
        sum : shard < first → first + (shard + shards - first) ≡ shard + shards
        sum lt = omega arith

pub feeding_round_sees_ends : (opening : List ShardValue) (shards first : ℕ) (view : View) → shards ≡ length opening
    → first < shards
    → ((turn : ℕ) → turn < shards → HasSeenEnd opening ((first + turn) % shards) view) → HasSeenEnds opening view
feeding_round_sees_ends opening shards first view many inside seen shard state is =
    let below : shard < length opening = slice_get_within opening shard state is in
    let at = feeding_round_reaches_shard shards first shard inside (omega (arith, many, below)) in
    subst (λ k. HasSeenEnd opening k view) at.2 (seen at.0 at.1) state is
