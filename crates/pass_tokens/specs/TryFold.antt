-- What a fold does: one fold of the pure core.
use Rattle.std.specs.Prelude.{ℕ, ◌≡◌, ◌≤◌, List, [], ◌∷◌, ◌++◌, fold, All, Some, slice_get}
use Rattle.shard_state.specs.{ShardValue, folded_shard, shard_state_at}
use Rattle.shard_state.specs.declared.shard_state.Folded.{Folded}
use Rattle.position_words.specs.{IsOddWord, StepLoses, trail_after_loss, seen_in, with_trail}
use Rattle.position_words.specs.declared.view.Trail.{Trail}
use Rattle.position_words.specs.declared.view.View.{View}
use Rattle.pass_tokens.specs.declared.board.TryFold.{TryFold}
use Rattle.pass_tokens.specs.declared.board.TryFold.TheVariants.{Done, Busy}

-- a trail after a fold
abbrev pub folded_once : Folded → Trail → Trail
folded_once block trail = record trail { seen = block.to; folds = trail.folds ++ block ∷ [] }

-- a fold from one position to another, which isn't before it, is one of the pure core: a fold of a block brings the
-- shard from the first to the other
pub record IsFoldOf (opening : List ShardValue) (shard block : ℕ) (done : Folded) : Type 0 where
  pub state : ShardValue
  pub is : slice_get opening shard ≡ Some state
  pub core : shard_state_at done.to state ≡ folded_shard block (shard_state_at done.from state)
  pub forward : done.from ≤ done.to

-- a fold that was made: it begins at or after the position that the pass had seen, and is the view's only new step
pub record Folds (opening : List ShardValue) (shard block : ℕ) (before now : View) (done : Folded) : Type 0 where
  pub core : IsFoldOf opening shard block done
  pub later : seen_in shard before ≤ done.from
  pub view : now ≡ with_trail (folded_once done) shard before

-- what a try to fold returns: the fold, or that the take lost
abbrev pub TriesFold : List ShardValue → ℕ → ℕ → View → View → TryFold → Type 0
TriesFold opening shard block before now (Done done) = Folds opening shard block before now done
TriesFold opening shard block before now Busy = StepLoses shard before now

-- a trail after takes that lost, which met these odd words
abbrev pub after_losses : List ℕ → Trail → Trail
after_losses words trail = fold (λ trail word. trail_after_loss word trail) trail words

-- a fold after any number of takes that lost
pub record FoldsAtLast (opening : List ShardValue) (shard block : ℕ) (before now : View) (done : Folded) : Type 0 where
  pub losses : List ℕ
  pub odd : All IsOddWord losses
  pub core : IsFoldOf opening shard block done
  pub later : seen_in shard before ≤ done.from
  pub view : now ≡ with_trail (λ trail. folded_once done (after_losses losses trail)) shard before

-- within the crate: takes of a shard, all of which lost
pub record WaitsToFold (shard : ℕ) (before now : View) : Type 0 where
  pub losses : List ℕ
  pub odd : All IsOddWord losses
  pub later : seen_in shard before ≤ seen_in shard now
  pub view : now ≡ with_trail (after_losses losses) shard before
