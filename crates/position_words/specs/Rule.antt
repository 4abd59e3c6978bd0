-- What words, slots and views keep between any two steps.
use Rattle.std.specs.Prelude.{ℕ, ◌≡◌, ◌+◌, ◌*◌, ◌/◌, ◌<◌, ◌≤◌, false, List, length, Option, Some, slice_get}
use Rattle.std.specs.Prelude.{slice_index}
use mathlib.Core.Option.{some}
use lib.ListN.{get_elem?}
use Rattle.atomic_table.specs.Table.{State}
use Rattle.shard_state.specs.{ShardValue, shard_state_at}
use Rattle.position_words.specs.declared.view.Held.{Held}
use Rattle.position_words.specs.declared.view.View.{View}
use Rattle.position_words.specs.View.{seen_in}
use Rattle.position_words.specs.Words.{IsEvenWord, IsOddWord}
use Rattle.position_words.specs.Seat.{IsHoldingSeat}

-- what holds of the view of a seat that was not joined to another: it names the shards, has a trail for each, and has
-- seen no position past that of the word
pub record FitsRule (shards : List ShardValue) (words : List ℕ) (view : View) : Type 0 where
  pub opening : view.opening ≡ shards
  pub trails : length view.trails ≡ length shards
  pub reached : (shard : ℕ) → seen_in shard view ≤ slice_index words shard / 2

-- the rule: a word is twice its shard's position, which is within the list, plus one while a seat holds the shard; at
-- most one seat does; while none does, the slot has the shard's state at that position; each view in use fits
pub record IsKept (opening : List ShardValue) (state : State (Option ShardValue) View) : Type 0 where
  pub words : length state.words ≡ length opening
  pub slots : length state.homes ≡ length opening
  pub within : (place : ℕ) (shard : ShardValue) → slice_get opening place ≡ Some shard
      → slice_index state.words place / 2 ≤ length shard.list
  pub even : (place : ℕ) (shard : ShardValue) → slice_get opening place ≡ Some shard
      → IsEvenWord (slice_index state.words place)
      → get_elem? state.homes place ≡ some (some (Some (shard_state_at (slice_index state.words place / 2) shard)))
  pub odd : (place : ℕ) → place < length opening → IsOddWord (slice_index state.words place)
      → (seat : ℕ) × IsHoldingSeat state.views seat place
  pub held : (seat : ℕ) (view : View) (held : Held) → get_elem? state.views seat ≡ some view → view.held ≡ Some held
      → slice_index state.words held.shard ≡ 2 * held.position + 1
  pub alone : (seat other place : ℕ) → IsHoldingSeat state.views seat place → IsHoldingSeat state.views other place → seat ≡ other
  pub views : (seat : ℕ) (view : View) → get_elem? state.views seat ≡ some view → view.spent ≡ false
      → FitsRule opening state.words view

-- a table that allows these states of words, slots and views is under the rule: each of them keeps it over the shards
abbrev pub IsUnderRule : List ShardValue → (State (Option ShardValue) View → Type 0) → Type 0
IsUnderRule opening allows = (state : State (Option ShardValue) View) → allows state → IsKept opening state
