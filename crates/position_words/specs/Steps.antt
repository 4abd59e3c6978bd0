-- What each kind of step does to the seat that makes it, and what calls return.
use Rattle.std.specs.Prelude.{ℕ, ◌≡◌, ◌/◌, ◌≤◌, false, List, [], ◌∷◌, length, Option, Some, slice_get}
use Rattle.atomic_table.specs.Table.{Me, Step, rest}
use Rattle.shard_state.specs.{ShardValue, shard_state_at}
use Rattle.position_words.specs.declared.view.Aim.{Aim}
use Rattle.position_words.specs.declared.view.View.{View}
use Rattle.position_words.specs.View.{seen_in, after_look, after_win, after_loss, after_giving}
use Rattle.position_words.specs.Words.{IsEvenWord, IsOddWord, IsShardAtSome, MayGiveAt}
use Rattle.position_words.specs.Seat.{SeatValue}
use Rattle.position_words.specs.declared.words.Take.{Take}
use Rattle.position_words.specs.declared.words.Take.TheVariants.{Taken, Busy}

-- a position that a step meets: at least the one that the seat has seen, and within the shard's list
pub record StepMeets (shard position : ℕ) (view : View) : Type 0 where
  pub later : seen_in shard view ≤ position
  pub within : (state : ShardValue) → slice_get view.opening shard ≡ Some state → position ≤ length state.list

-- a load of a word
abbrev pub StepLooks : Step (Option ShardValue) → Me (Option ShardValue) View → ℕ → Me (Option ShardValue) View → Type 0
StepLooks step before word now =
    StepMeets step.word (word / 2) before.0 × (now ≡ (after_look step.word (word / 2) before.0, before.1))

-- a take that met an even word: the seat holds the shard, and its slot is out with the state at that position
pub record StepWins (aim : Aim) (shard position : ℕ) (before now : Me (Option ShardValue) View) : Type 0 where
  pub state : ShardValue
  pub is : slice_get before.0.opening shard ≡ Some state
  pub now_is : now ≡ (after_win aim shard position before.0, (shard, Some (shard_state_at position state)) ∷ before.1)

-- a take: it wins where the word is even, and loses where the word is odd
pub record StepMarks (aim : Aim) (shard : ℕ) (before : Me (Option ShardValue) View) (word : ℕ)
    (now : Me (Option ShardValue) View) : Type 0 where
  pub meets : StepMeets shard (word / 2) before.0
  pub wins : IsEvenWord word → StepWins aim shard (word / 2) before now
  pub loses : IsOddWord word → now ≡ (after_loss shard word before.0, before.1)

-- a take for this aim, as a step of the table
abbrev pub StepTakesFor : Aim → Step (Option ShardValue) → Me (Option ShardValue) View → ℕ → Me (Option ShardValue) View
    → Type 0
StepTakesFor aim step before word now = StepMarks aim step.word before word now

-- a store that gives the slot back: the word is twice the new position
abbrev pub StepGives : Step (Option ShardValue) → Me (Option ShardValue) View → ℕ → Me (Option ShardValue) View → Type 0
StepGives step before word now = now ≡ (after_giving (word / 2) before.0, rest before.1)

-- the same seat of the same table
pub record IsSameSeat (before now : SeatValue) : Type 0 where
  pub table : now.table_id ≡ before.table_id
  pub seat : now.id ≡ before.id

-- one slot is out with a seat, that of this shard, and has a state
pub record StepHasTaken (shard : ℕ) (slots : List (ℕ × Option ShardValue)) : Type 0 where
  pub state : ShardValue
  pub is : slots ≡ (shard, Some state) ∷ []

-- one slot is out with a seat, that of this shard, and has a state that may be given back at this position
pub record StepIsReady (opening : List ShardValue) (shard position : ℕ) (me : Me (Option ShardValue) View) : Type 0 where
  pub state : ShardValue
  pub live : me.0.spent ≡ false
  pub slot : me.1 ≡ (shard, Some state) ∷ []
  pub of_shard : IsShardAtSome opening shard state
  pub at : state.position ≡ position
  pub within : state.position ≤ length state.list
  pub gives : MayGiveAt shard position me.0

-- a take that lost: the word that it met was odd, so another seat held the shard
pub record StepLoses (shard : ℕ) (before now : View) : Type 0 where
  pub word : ℕ
  pub odd : IsOddWord word
  pub meets : StepMeets shard (word / 2) before
  pub view : now ≡ after_loss shard word before

-- what a take returns: the state of the shard, which the seat then holds at that position; or that it lost
abbrev pub StepAnswers : List ShardValue → ℕ → Aim → View → View → Take → Type 0
StepAnswers opening shard aim before now (Taken state) =
    IsShardAtSome opening shard state × StepMeets shard state.position before × (now ≡ after_win aim shard state.position before)
StepAnswers opening shard aim before now Busy = StepLoses shard before now
