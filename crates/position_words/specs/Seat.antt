-- The seats at the words of shards, as contracts see them.
use Rattle.std.specs.Prelude.{ℕ, ◌≡◌, false, List, length, Option, Some, [], ◌∷◌, None}
use mathlib.Core.Option.{some}
use lib.ListN.{get_elem?}
use Rattle.atomic_table.specs.declared.shared.Seat.{Seat}
use Rattle.shard_state.specs.{ShardValue}
use Rattle.position_words.specs.declared.view.Held.{Held}
use Rattle.position_words.specs.declared.view.View.{View}
use Rattle.position_words.specs.Words.{WordsValue}

-- a seat, as contracts see it
abbrev pub SeatValue : Type 0
SeatValue = Seat (Option ShardValue) View

-- what a seat knows
abbrev pub view : SeatValue → View
view seat = seat.me.0

-- the slots that are out with a seat between two calls: the empty one of the shard that it holds, if any
abbrev pub slots_out : Option Held → List (ℕ × Option ShardValue)
slots_out None = []
slots_out (Some held) = (held.shard, None) ∷ []

-- a seat of these words: it names their shards, has a trail for each, and was not joined to another
pub record IsSeatOf (words : WordsValue) (seat : SeatValue) : Type 0 where
  pub id : seat.table_id ≡ words.id
  pub opening : (view seat).opening ≡ words.opening
  pub trails : length (view seat).trails ≡ length words.opening
  pub live : (view seat).spent ≡ false
  pub slot : seat.me.1 ≡ slots_out (view seat).held

-- the seat with this number holds this shard, as its view says
pub record IsHoldingSeat (views : List View) (seat shard : ℕ) : Type 0 where
  pub view : View
  pub held : Held
  pub at : get_elem? views seat ≡ some view
  pub holds : view.held ≡ Some held
  pub is : held.shard ≡ shard
