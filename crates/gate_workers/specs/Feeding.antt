-- What feeding does to the view of a pass.
use Rattle.std.specs.Prelude.{ℕ, ◌≡◌, ◌≤◌, List, ◌++◌, length, All, Some, slice_get}
use Rattle.shard_state.specs.{ShardValue}
use Rattle.shard_state.specs.declared.shard_state.Folded.{Folded}
use Rattle.position_words.specs.declared.view.Trail.{Trail}
use Rattle.position_words.specs.declared.view.View.{View}
use Rattle.pass_tokens.specs.{IsFoldOf, IsOddWord, seen_in}

-- what a trail has after folds of blocks and takes that lost, each fold one of the pure core: no more looks or reads,
-- and no position seen before the last one
pub record IsFed (opening : List ShardValue) (shard block : ℕ) (before now : Trail) : Type 0 where
  pub folds : List Folded
  pub losses : List ℕ
  pub core : All (IsFoldOf opening shard block) folds
  pub odd : All IsOddWord losses
  pub later : before.seen ≤ now.seen
  pub is : now ≡ record before { seen = now.seen; folds = before.folds ++ folds; losses = before.losses ++ losses }

-- a view after feeding: each trail is fed, and all else stays
pub record Feeds (opening : List ShardValue) (block : ℕ) (before now : View) : Type 0 where
  pub same : now ≡ record before { trails = now.trails }
  pub as_many : length now.trails ≡ length before.trails
  pub trails : (shard : ℕ) (trail later : Trail) → slice_get before.trails shard ≡ Some trail
      → slice_get now.trails shard ≡ Some later
      → IsFed opening shard block trail later

-- a view has seen the end of a shard's list
abbrev pub HasSeenEnd : List ShardValue → ℕ → View → Type 0
HasSeenEnd opening shard view =
    (state : ShardValue) → slice_get opening shard ≡ Some state → length state.list ≤ seen_in shard view

-- a view has seen the end of each shard's list
abbrev pub HasSeenEnds : List ShardValue → View → Type 0
HasSeenEnds opening view = (shard : ℕ) → HasSeenEnd opening shard view
