-- What a read does: one read of the pure core for each shard.
use Rattle.std.specs.Prelude.{ℕ, ◌≡◌, ◌≤◌, List, [], ◌∷◌, ◌++◌, map, drop, length, All, Some, slice_get}
use Rattle.shard_state.specs.{CutValue, IsShard, ShardValue, snapshot_of, shard_state_at, with_shard}
use Rattle.position_words.specs.{IsOddWord, StepLoses, seen_in, with_trail}
use Rattle.position_words.specs.declared.view.Trail.{Trail}
use Rattle.position_words.specs.declared.view.View.{View}
use Rattle.pass_tokens.specs.TryFold.{after_losses}
use Rattle.pass_tokens.specs.declared.board.TryRead.{TryRead}
use Rattle.pass_tokens.specs.declared.board.TryRead.TheVariants.{Done, Busy}

-- a trail after a read that met this position
abbrev pub read_once : ℕ → Trail → Trail
read_once position trail = record trail { seen = position; reads = trail.reads ++ position ∷ [] }

-- a read that was made: it met a position, at least the one that the pass had seen; the cut gets the snapshot of the
-- pure core at that position, and the read is the view's only new step
pub record ReadsShard (opening : List ShardValue) (shard : ℕ) (before : View) (cut : CutValue) (now : View)
    (changed : CutValue) : Type 0 where
  pub position : ℕ
  pub state : ShardValue
  pub is : slice_get opening shard ≡ Some state
  pub kept : IsShard (shard_state_at position state)
  pub later : seen_in shard before ≤ position
  pub view : now ≡ with_trail (read_once position) shard before
  pub core : changed ≡ with_shard shard (Some (shard_state_at position state)) cut

-- what a try to read returns: that the cut has the snapshot, or that the take lost and the cut is unchanged
abbrev pub TriesToRead : List ShardValue → ℕ → View → CutValue → View → CutValue → TryRead → Type 0
TriesToRead opening shard before cut now changed Done = ReadsShard opening shard before cut now changed
TriesToRead opening shard before cut now changed Busy = StepLoses shard before now × (changed ≡ cut)

-- one read of a shard: the odd words that takes met before, and the position at which it was taken
pub record ShardRead : Type 0 where
  pub losses : List ℕ
  pub position : ℕ

-- a trail after such a read
abbrev pub after_read : ShardRead → Trail → Trail
after_read read trail = read_once read.position (after_losses read.losses trail)

-- trails after one such read of each of the first shards
abbrev pub after_reads : List Trail → List ShardRead → List Trail
after_reads [] reads = []
after_reads (trail ∷ rest) [] = trail ∷ rest
after_reads (trail ∷ rest) (read ∷ reads) = after_read read trail ∷ after_reads rest reads

-- the shards of the pure core at the positions of such reads
abbrev pub states_of : List ShardValue → List ShardRead → List ShardValue
states_of [] reads = []
states_of (shard ∷ rest) [] = []
states_of (shard ∷ rest) (read ∷ reads) = shard_state_at read.position shard ∷ states_of rest reads

-- one read of each shard, each after any number of takes that lost: the cut gets the snapshots of the pure core at the
-- positions met, each at least the one that the pass had seen
pub record ReadsCut (opening : List ShardValue) (before : View) (cut : CutValue) (now : View) (changed : CutValue)
    : Type 0 where
  pub reads : List ShardRead
  pub as_many : length reads ≡ length opening
  pub odd : All (λ read. All IsOddWord read.losses) reads
  pub kept : All IsShard (states_of opening reads)
  pub later : (shard : ℕ) (read : ShardRead) → slice_get reads shard ≡ Some read → seen_in shard before ≤ read.position
  pub view : now ≡ record before { trails = after_reads before.trails reads }
  pub core : changed ≡ record cut { shards = map snapshot_of (states_of opening reads) }

-- within the crate: one read of a shard after any number of takes that lost
pub record ReadsAtLast (opening : List ShardValue) (shard : ℕ) (before : View) (cut : CutValue) (now : View)
    (changed : CutValue) : Type 0 where
  pub read : ShardRead
  pub odd : All IsOddWord read.losses
  pub state : ShardValue
  pub is : slice_get opening shard ≡ Some state
  pub kept : IsShard (shard_state_at read.position state)
  pub later : seen_in shard before ≤ read.position
  pub view : now ≡ with_trail (after_read read) shard before
  pub core : changed ≡ with_shard shard (Some (shard_state_at read.position state)) cut

-- within the crate: such reads of the first shards
pub record ReadsSoFar (opening : List ShardValue) (count : ℕ) (before : View) (cut : CutValue) (now : View)
    (changed : CutValue) : Type 0 where
  pub reads : List ShardRead
  pub as_many : length reads ≡ count
  pub odd : All (λ read. All IsOddWord read.losses) reads
  pub kept : All IsShard (states_of opening reads)
  pub later : (shard : ℕ) (read : ShardRead) → slice_get reads shard ≡ Some read → seen_in shard before ≤ read.position
  pub view : now ≡ record before { trails = after_reads before.trails reads }
  pub core : changed ≡ record cut { shards = map snapshot_of (states_of opening reads) ++ drop count cut.shards }
