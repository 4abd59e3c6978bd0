-- What a pass knows after takes that lost, and after the one that won.
use Rattle.std.proofs.Common.{◌≡◌, ℕ, zero, suc, ◌/◌, ◌<◌, List, [], ◌∷◌, ◌++◌, map, length, refl, sym, ap, ◌∙◌, arith}
use Rattle.std.specs.Prelude.{slice_index}
use Rattle.std.proofs.lemmas.List.Elements.{All-nil, All-cons, All-append}
use Rattle.shard_state.specs.{CutValue, ShardValue, changed_in}
use Rattle.shard_state.specs.declared.shard_state.Folded.{Folded}
use Rattle.position_words.specs.{IsOddWord, StepLoses, trail_after_loss, seen_in, with_trail}
use Rattle.position_words.specs.declared.view.Trail.{Trail}
use Rattle.position_words.specs.declared.view.View.{View}
use Rattle.pass_tokens.specs.TryFold.{Folds, FoldsAtLast, WaitsToFold, folded_once, after_losses}
use Rattle.pass_tokens.specs.TryRead.{ReadsShard, ReadsAtLast, read_once}
use Rattle.pass_tokens.proofs.ChangedPlaceLemmas.{changed_place_twice, changed_place_alike, changed_place_same}

-- what was seen of a shard after a step there
wait_seen_after_step : (change : Trail → Trail) (position place : ℕ) (trails : List Trail)
    → ((trail : Trail) → (change trail).seen ≡ position) → place < length trails
    → slice_index (map (λ trail. trail.seen) (changed_in change place trails)) place ≡ position
wait_seen_after_step change position place [] sees inside = absurd (omega arith)
wait_seen_after_step change position zero (trail ∷ rest) sees inside = sees trail
wait_seen_after_step change position (suc place) (trail ∷ rest) sees inside =
    wait_seen_after_step change position place rest sees (omega arith)

-- before the first take
pub wait_without_losses : (shard : ℕ) (view : View) → WaitsToFold shard view view
wait_without_losses shard view = record {
  losses = [];
  odd = All-nil IsOddWord;
  later = omega arith;
  view = ap (λ trails. record view { trails = trails }) (sym (changed_place_same shard view.trails));
}

after_losses-one_wait_more : (words : List ℕ) (word : ℕ) (trail : Trail)
    → after_losses (words ++ word ∷ []) trail ≡ trail_after_loss word (after_losses words trail)
after_losses-one_wait_more [] word trail = refl
after_losses-one_wait_more (first ∷ rest) word trail = after_losses-one_wait_more rest word (trail_after_loss first trail)

-- one step more at the shard
step_after_wait : (shard : ℕ) (before now after : View) (earlier later : Trail → Trail) → now ≡ with_trail earlier shard before
    → after ≡ with_trail later shard now
    → after ≡ with_trail (λ trail. later (earlier trail)) shard before
step_after_wait shard before now after earlier later now_is after_is =
    after_is ∙ ap (with_trail later shard) now_is
    ∙ ap (λ trails. record before { trails = trails }) (changed_place_twice later earlier shard before.trails)

-- one take more that lost
pub wait_loses_again : (shard : ℕ) (before now after : View) → shard < length now.trails → WaitsToFold shard before now
    → StepLoses shard now after → WaitsToFold shard before after
wait_loses_again shard before now after inside waits loses = record {
  losses = waits.losses ++ loses.word ∷ [];
  odd =
      All-append IsOddWord waits.losses (loses.word ∷ []) waits.odd
      (All-cons IsOddWord loses.word [] loses.odd (All-nil IsOddWord));
  later =
      let seen : seen_in shard after ≡ loses.word / 2 =
      ap (seen_in shard) loses.view
      ∙ wait_seen_after_step (trail_after_loss loses.word) (loses.word / 2) shard now.trails (λ trail. refl) inside in
      omega (arith, waits.later, loses.meets.later, seen);
  view = step_after_wait shard before now after (after_losses waits.losses) (trail_after_loss loses.word) waits.view loses.view
      ∙ ap (λ trails. record before { trails = trails })
      (changed_place_alike (λ trail. trail_after_loss loses.word (after_losses waits.losses trail))
      (after_losses (waits.losses ++ loses.word ∷ [])) shard before.trails
      (λ trail. sym (after_losses-one_wait_more waits.losses loses.word trail)));
}

-- the take that won, to fold
pub wait_ends_with_fold : (opening : List ShardValue) (shard block : ℕ) (before now after : View) (done : Folded)
    → WaitsToFold shard before now → Folds opening shard block now after done
    → FoldsAtLast opening shard block before after done
wait_ends_with_fold opening shard block before now after done waits folds = record {
  losses = waits.losses;
  odd = waits.odd;
  core = folds.core;
  later = omega (arith, waits.later, folds.later);
  view = step_after_wait shard before now after (after_losses waits.losses) (folded_once done) waits.view folds.view;
}

-- and to read
pub wait_ends_with_read : (opening : List ShardValue) (shard : ℕ) (before now after : View) (cut changed_in : CutValue)
    → WaitsToFold shard before now → ReadsShard opening shard now cut after changed_in
    → ReadsAtLast opening shard before cut after changed_in
wait_ends_with_read opening shard before now after cut changed_in waits reads = record {
  read = record { losses = waits.losses; position = reads.position };
  odd = waits.odd;
  state = reads.state;
  is = reads.is;
  kept = reads.kept;
  later = omega (arith, waits.later, reads.later);
  view = step_after_wait shard before now after (after_losses waits.losses) (read_once reads.position) waits.view reads.view;
  core = reads.core;
}
