-- Worked examples of passes and of what folds leave, most by computing.
use Rattle.std.proofs.Common.{◌≡◌, ℕ, ◌/◌, ◌≤◌, List, [], ◌∷◌, ◌++◌, map, length, None, refl, sym, ap, ◌∙◌, arith}
use Rattle.std.proofs.Common.{subst}
use Rattle.std.specs.Prelude.{slice_index}
use Rattle.std.proofs.lemmas.List.Elements.{All-from_recursion}
use Rattle.std.proofs.lemmas.Option.{same_Some}
use Rattle.prefix_lattice.specs.{RecordValue}
use Rattle.prefix_lattice.specs.declared.grain.Grain.TheVariants.{Byte}
use Rattle.shard_state.specs.{TableShape, ShardValue, empty_snapshot, folded_shard, shard_state_at}
use Rattle.shard_state.specs.declared.shard_state.Folded.{Folded}
use Rattle.position_words.specs.{IsOddWord, SeatValue, WordsValue, first_view, after_look, after_loss}
use Rattle.position_words.specs.{seen_in, after_win}
use Rattle.position_words.specs.declared.view.Aim.TheVariants.{Fold}
use Rattle.position_words.specs.declared.view.Trail.{Trail}
use Rattle.position_words.specs.declared.view.View.{View}
use Rattle.pass_tokens.specs.declared.board.TryFold.TheVariants.{Done, Busy}
use Rattle.pass_tokens.specs.Board.{IsPassOf}
use Rattle.pass_tokens.specs.TryFold.{folded_once, IsFoldOf, Folds, TriesFold, after_losses, FoldsAtLast}
use Rattle.pass_tokens.specs.TryFold.{WaitsToFold}

-- tables of whole bytes, each of 4 entries
abbrev pub four : TableShape
four = record { grain = Byte; capacity = 4 }

-- a packet from 1.0.0.1 to 101.0.0.1
abbrev pub x : RecordValue
x = record { src = 0x01000001; dst = 0x65000001; weight = 1 }

-- two shards, of two packets and of one, none of which is counted
abbrev pub pair : ShardValue
pair = record { list = x ∷ x ∷ []; base = empty_snapshot four; position = 0 }

abbrev pub single : ShardValue
single = record { list = x ∷ []; base = empty_snapshot four; position = 0 }

abbrev pub shards : List ShardValue
shards = pair ∷ single ∷ []

abbrev pub first : View
first = first_view shards

-- what a pass knows of a shard of which it has seen only this position
abbrev pub trail : ℕ → Trail
trail position = record { seen = position; looks = []; reads = []; folds = []; losses = [] }

-- a board of these shards
abbrev board_of : SeatValue → WordsValue
board_of seat = record { id = seat.table_id; opening = shards }

pub free_seat_is_a_pass : (seat : SeatValue) → IsPassOf (board_of seat) (record seat { me = (first, []) })
free_seat_is_a_pass seat = record {
  seat = record { id = refl; opening = refl; trails = refl; live = refl; slot = refl };
  free = refl;
}

pub holder_is_no_pass : (seat : SeatValue)
    → IsPassOf (board_of seat) (record seat { me = (after_win Fold 0 1 first, (0, None) ∷ []) }) → ⊥
holder_is_no_pass seat pass = cc pass.free

abbrev block : ℕ → ℕ → Folded
block from to = record { from = from; to = to }

pub fold_is_kept : folded_once (block 0 1) (trail 0) ≡ record (trail 1) { folds = block 0 1 ∷ [] }
fold_is_kept = refl

pub fold_of_one_record : IsFoldOf shards 0 1 (block 0 1)
fold_of_one_record = record { state = pair; is = refl; core = refl; forward = omega arith }

pub fold_to_the_end : IsFoldOf shards 0 8 (block 1 2)
fold_to_the_end = record { state = pair; is = refl; core = refl; forward = omega arith }

pub fold_at_the_end : IsFoldOf shards 0 8 (block 2 2)
fold_at_the_end = record { state = pair; is = refl; core = refl; forward = omega arith }

-- no fold goes back, as from 5, which is past the end of the list
pub fold_from_past_the_end : IsFoldOf shards 0 8 (block 5 2) → ⊥
fold_from_past_the_end fold = omega (arith, fold.forward)

-- a block of one record brings the shard from 0 to 1, not to 2
pub fold_of_a_record_too_many : IsFoldOf shards 0 1 (block 0 2) → ⊥
fold_of_a_record_too_many fold =
    let same : fold.state ≡ pair = sym (same_Some pair fold.state fold.is) in
    let core : shard_state_at 2 pair ≡ folded_shard 1 (shard_state_at 0 pair) =
    subst (λ (s : ShardValue). shard_state_at 2 s ≡ folded_shard 1 (shard_state_at 0 s)) same fold.core in
    let position : 2 ≡ 1 = ap (λ (s : ShardValue). s.position) core in
    omega (arith, position)

-- the view after a fold from 0 to 1
abbrev pub after_one : View
after_one = record first { trails = record (trail 1) { folds = block 0 1 ∷ [] } ∷ trail 0 ∷ [] }

pub folds_one_record : Folds shards 0 1 first after_one (block 0 1)
folds_one_record = record { core = fold_of_one_record; later = omega arith; view = refl }

pub fold_that_the_view_lacks : Folds shards 0 1 first first (block 0 1) → ⊥
fold_that_the_view_lacks folds = let seen : 0 ≡ 1 = ap (seen_in 0) folds.view in omega (arith, seen)

pub fold_before_what_was_seen : (now : View) → Folds shards 0 1 (after_look 0 1 first) now (block 0 1) → ⊥
fold_before_what_was_seen now folds = let later : 1 ≤ 0 = folds.later in omega (arith, later)

pub try_that_folds : TriesFold shards 0 1 first after_one (Done (block 0 1))
try_that_folds = folds_one_record

pub try_that_loses : TriesFold shards 0 1 first (after_loss 0 3 first) Busy
try_that_loses = record {
  word = 3;
  odd = refl;
  meets = record {
    later = omega arith;
    within = λ state is. subst (λ (s : ShardValue). 1 ≤ length s.list) (same_Some pair state is) (omega arith);
  };
  view = refl;
}

-- how many losses a view has of the first shard
abbrev losses_of : View → ℕ
losses_of view = slice_index (map (λ trail. length trail.losses) view.trails) 0

pub busy_without_a_loss : TriesFold shards 0 1 first first Busy → ⊥
busy_without_a_loss loses = let count : 0 ≡ 1 = ap losses_of loses.view in omega (arith, count)

pub losses_are_kept : after_losses (3 ∷ 5 ∷ []) (trail 0) ≡ record (trail 2) { losses = 3 ∷ 5 ∷ [] }
losses_are_kept = refl

-- a take met the word 3, and the next one won at position 1
pub folds_after_a_loss : FoldsAtLast shards 0 1 first
    (record first { trails = record (trail 2) { folds = block 1 2 ∷ []; losses = 3 ∷ [] } ∷ trail 0 ∷ [] }) (block 1 2)
folds_after_a_loss = record {
  losses = 3 ∷ [];
  odd = All-from_recursion IsOddWord (3 ∷ []) (refl, tt);
  core = record { state = pair; is = refl; core = refl; forward = omega arith };
  later = omega arith;
  view = refl;
}

pub fold_at_last_that_the_view_lacks : FoldsAtLast shards 0 1 first first (block 0 1) → ⊥
fold_at_last_that_the_view_lacks folds = let seen : 0 ≡ 1 = ap (seen_in 0) folds.view in omega (arith, seen)

pub waits_for_two_losses : WaitsToFold 0 first (after_loss 0 5 (after_loss 0 3 first))
waits_for_two_losses = record {
  losses = 3 ∷ 5 ∷ [];
  odd = All-from_recursion IsOddWord (3 ∷ 5 ∷ []) (refl, (refl, tt));
  later = omega arith;
  view = refl;
}

-- how many looks a view has of the first shard
abbrev looks_of : View → ℕ
looks_of view = slice_index (map (λ trail. length trail.looks) view.trails) 0

looks_stay : (words : List ℕ) (trail : Trail) → (after_losses words trail).looks ≡ trail.looks
looks_stay [] trail = refl
looks_stay (word ∷ words) trail =
    looks_stay words (record trail { seen = word / 2; losses = trail.losses ++ word ∷ [] })

-- a look is not part of a wait
pub waits_with_a_look : WaitsToFold 0 first (after_look 0 1 first) → ⊥
waits_with_a_look waits =
    let count : 1 ≡ 0 = ap looks_of waits.view ∙ ap length (looks_stay waits.losses (trail 0)) in
    omega (arith, count)
