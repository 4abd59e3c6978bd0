-- A take and a give make one read.
use Rattle.std.proofs.Common.{◌≡◌, ℕ, List, None, slice_set, sym, ap, ◌∙◌}
use Rattle.shard_state.specs.{CutValue, IsShard, ShardValue, snapshot_of, shard_state_at}
use Rattle.position_words.specs.{IsShardAtSome, StepMeets, after_giving, after_win}
use Rattle.position_words.specs.{with_trail}
use Rattle.position_words.specs.declared.view.Aim.TheVariants.{Read}
use Rattle.position_words.specs.declared.view.View.{View}
use Rattle.pass_tokens.specs.TryRead.{ReadsShard, read_once}
use Rattle.pass_tokens.proofs.ChangedPlaceLemmas.{changed_place_twice}

-- the view after both
pass_read_is_one_step : (shard position : ℕ) (before : View) → before.held ≡ None
    → after_giving position (after_win Read shard position before) ≡ with_trail (read_once position) shard before
pass_read_is_one_step shard position before free =
    ap (λ trails. record before { trails = trails; held = None }) (changed_place_twice _ _ shard before.trails)
    ∙ ap (λ held. record (with_trail (read_once position) shard before) { held = held }) (sym free)

pub is_pass_read : (opening : List ShardValue) (shard : ℕ) (before taken now : View) (cut later : CutValue)
    (state : ShardValue) → before.held ≡ None → IsShardAtSome opening shard state
    → StepMeets shard state.position before → taken ≡ after_win Read shard state.position before
    → now ≡ after_giving state.position taken
    → later ≡ record cut { shards = slice_set cut.shards shard (snapshot_of state) } → IsShard state
    → ReadsShard opening shard before cut now later
is_pass_read opening shard before taken now cut later state free of meets taken_is now_is later_is kept = record {
  position = state.position;
  state = shard_state_at of.start state;
  is = of.is;
  kept = kept;
  later = meets.later;
  view = now_is ∙ ap (λ v. after_giving state.position v) taken_is ∙ pass_read_is_one_step shard state.position before free;
  core = later_is;
}
