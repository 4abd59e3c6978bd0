-- A take and a give make one fold.
use Rattle.std.proofs.Common.{◌≡◌, ℕ, ◌+◌, ◌≤◌, min, List, length, None, slice_get, arith, sym, ap, ◌∙◌, subst}
use Rattle.shard_state.specs.{ShardValue, folded_shard, shard_state_at}
use Rattle.shard_state.specs.declared.shard_state.Folded.{Folded}
use Rattle.position_words.specs.{IsShardAtSome, StepMeets, after_giving, seen_in, after_win}
use Rattle.position_words.specs.{with_trail}
use Rattle.position_words.specs.declared.view.Aim.TheVariants.{Fold}
use Rattle.position_words.specs.declared.view.View.{View}
use Rattle.pass_tokens.specs.TryFold.{Folds, folded_once}
use Rattle.pass_tokens.proofs.ChangedPlaceLemmas.{changed_place_twice}

-- the view after both
pass_fold_is_one_step : (shard : ℕ) (before : View) (done : Folded) → before.held ≡ None
    → after_giving done.to (after_win Fold shard done.from before) ≡ with_trail (folded_once done) shard before
pass_fold_is_one_step shard before done free =
    ap (λ trails. record before { trails = trails; held = None }) (changed_place_twice _ _ shard before.trails)
    ∙ ap (λ held. record (with_trail (folded_once done) shard before) { held = held }) (sym free)

pub is_pass_fold : (opening : List ShardValue) (shard block : ℕ) (before taken now : View) (state left : ShardValue)
    (done : Folded) → now ≡ after_giving left.position taken
    → taken ≡ after_win Fold shard state.position before → left ≡ folded_shard block state → done.from ≡ state.position
    → done.to ≡ left.position → IsShardAtSome opening shard state
    → StepMeets shard state.position before → before.held ≡ None → before.opening ≡ opening
    → Folds opening shard block before now done
is_pass_fold opening shard block before taken now state left done now_is taken_is left_is from to of meets free
    opening_is = record {
      core = record {
        state = shard_state_at of.start state;
        is = of.is;
        core =
            ap (λ p. shard_state_at p state) (to ∙ ap (λ (s : ShardValue). s.position) left_is)
            ∙ ap (λ p. folded_shard block (shard_state_at p state)) (sym from);
        forward =
            let within : state.position ≤ length state.list =
            meets.within (shard_state_at of.start state) (ap (λ ss. slice_get ss shard) opening_is ∙ of.is) in
            let position : left.position ≡ min (length state.list) (state.position + block) =
            ap (λ (s : ShardValue). s.position) left_is in
            omega (arith, from, to, within, position);
      };
      later = subst (λ p. seen_in shard before ≤ p) (sym from) meets.later;
      view =
          now_is ∙ ap (λ v. after_giving left.position v) taken_is
          ∙ ap (λ p. after_giving p (after_win Fold shard state.position before)) (sym to)
          ∙ ap (λ p. after_giving done.to (after_win Fold shard p before)) (sym from) ∙ pass_fold_is_one_step shard before done free;
    }
