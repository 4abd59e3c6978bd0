-- The words of shards, as contracts see them, and what a shard that was taken may be given back as.
use Rattle.std.specs.Prelude.{ℕ, ◌≡◌, ◌%◌, ◌≤◌, List, Some, slice_get}
use Rattle.atomic_table.specs.Seated.{TableId}
use Rattle.shard_state.specs.{ShardValue, shard_state_at}
use Rattle.position_words.specs.declared.view.Held.{Held}
use Rattle.position_words.specs.declared.view.View.{View}
use Rattle.position_words.specs.declared.view.Aim.{Aim}
use Rattle.position_words.specs.declared.view.Aim.TheVariants.{Fold, Read}

-- which words these are, and the shards as they were at the start
pub record WordsValue : Type 0 where
  pub id : TableId
  pub opening : List ShardValue

-- an even word: no seat holds its shard
abbrev pub IsEvenWord : ℕ → Type 0
IsEvenWord word = word % 2 ≡ 0

-- an odd word: a seat holds its shard
abbrev pub IsOddWord : ℕ → Type 0
IsOddWord word = word % 2 ≡ 1

-- a state has the list and the base of a shard: only its position may differ from that at the start
pub record IsShardAtSome (opening : List ShardValue) (shard : ℕ) (state : ShardValue) : Type 0 where
  pub start : ℕ
  pub is : slice_get opening shard ≡ Some (shard_state_at start state)

-- a shard taken at one position may be given back at another: after a read at the same, after a fold at none before
abbrev pub MayFollow : Aim → ℕ → ℕ → Type 0
MayFollow Fold met position = met ≤ position
MayFollow Read met position = position ≡ met

-- a view holds this shard, and may give it back at this position
pub record MayGiveAt (shard position : ℕ) (view : View) : Type 0 where
  pub held : Held
  pub holds : view.held ≡ Some held
  pub is : held.shard ≡ shard
  pub follows : MayFollow held.aim held.position position
