-- Later views of the same steps, which is what the rounds of the calling thread may rely on.
use Rattle.std.specs.Prelude.{ℕ, ◌≡◌, ◌≤◌, length, Some, slice_get}
use Rattle.position_words.specs.declared.view.Trail.{Trail}
use Rattle.position_words.specs.declared.view.View.{View}
use Rattle.pass_tokens.specs.{WordsValue}

-- a later trail of the same steps: its shard may have been seen further on
pub record IsLaterTrail (before now : Trail) : Type 0 where
  pub same : now ≡ record before { seen = now.seen }
  pub later : before.seen ≤ now.seen

-- a later view of the same steps: it may have seen more, and more passes may have been split off
pub record IsLaterView (before now : View) : Type 0 where
  pub same : now ≡ record before { trails = now.trails; splits = now.splits }
  pub splits : before.splits ≤ now.splits
  pub as_many : length now.trails ≡ length before.trails
  pub trails : (shard : ℕ) (trail later : Trail) → slice_get before.trails shard ≡ Some trail
      → slice_get now.trails shard ≡ Some later → IsLaterTrail trail later

-- what holds of a board and a view still holds of a later view of the same steps
abbrev pub StaysReady : (WordsValue → View → Type 0) → Type 0
StaysReady ready = (board : WordsValue) (before now : View) → IsLaterView before now → ready board before → ready board now
