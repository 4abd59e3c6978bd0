-- Worked examples of what each kind of step does.
use Rattle.std.proofs.Common.{◌≡◌, ℕ, ◌≤◌, List, [], ◌∷◌, map, length, Option, None, Some, refl, ap, arith, subst}
use Rattle.std.specs.Prelude.{slice_index}
use Rattle.std.proofs.lemmas.Option.{same_Some}
use mathlib.Core.Option.{none}
use Rattle.atomic_table.specs.Table.{Step, step}
use Rattle.shard_state.specs.{ShardValue, shard_state_at}
use Rattle.position_words.specs.declared.view.Aim.TheVariants.{Fold}
use Rattle.position_words.specs.declared.view.View.{View}
use Rattle.position_words.specs.declared.words.Take.TheVariants.{Taken, Busy}
use Rattle.position_words.specs.View.{after_giving, after_look, after_loss}
use Rattle.position_words.specs.Seat.{SeatValue}
use Rattle.position_words.specs.Steps.{StepMeets, StepLooks, StepWins, StepMarks, StepTakesFor}
use Rattle.position_words.specs.Steps.{StepGives, StepLoses, StepAnswers, IsSameSeat}
use Rattle.position_words.specs.Steps.{StepHasTaken}
use Rattle.position_words.specs.Steps.{StepIsReady}
use Rattle.position_words.proofs.Examples.{pair, shards, first, holding}
use Rattle.position_words.proofs.ExamplesOfRule.{same_list_and_base, holder_may_give}

-- a step at the first of two words
abbrev at_the_first : Step (Option ShardValue)
at_the_first = step 2 0 0 0 none

pub meets_a_later_position : StepMeets 0 1 first
meets_a_later_position = record {
  later = omega arith;
  within = λ state is. subst (λ (s : ShardValue). 1 ≤ length s.list) (same_Some pair state is) (omega arith);
}

pub meets_none_past_the_list : StepMeets 0 3 first → ⊥
meets_none_past_the_list meets = let within : 3 ≤ 2 = meets.within pair refl in omega (arith, within)

pub meets_none_before_what_it_saw : StepMeets 0 1 (after_look 0 2 first) → ⊥
meets_none_before_what_it_saw meets = let later : 2 ≤ 1 = meets.later in omega (arith, later)

-- how many looks and how many losses a view has of the first shard
abbrev looks_of : View → ℕ
looks_of view = slice_index (map (λ trail. length trail.looks) view.trails) 0

abbrev losses_of : View → ℕ
losses_of view = slice_index (map (λ trail. length trail.losses) view.trails) 0

pub load_is_a_look : StepLooks at_the_first (first, []) 3 (after_look 0 1 first, [])
load_is_a_look = (meets_a_later_position, refl)

pub load_that_leaves_no_look : StepLooks at_the_first (first, []) 3 (first, []) → ⊥
load_that_leaves_no_look looks = let count : 0 ≡ 1 = ap (λ me. looks_of me.0) looks.1 in omega (arith, count)

pub take_that_wins : StepWins Fold 0 1 (first, []) (holding, (0, Some (shard_state_at 1 pair)) ∷ [])
take_that_wins = record { state = pair; is = refl; now_is = refl }

-- the slot that comes out has the state at the position of the word
pub take_of_an_older_state : StepWins Fold 0 1 (first, []) (holding, (0, Some pair) ∷ []) → ⊥
take_of_an_older_state wins =
    let position : 0 ≡ 1 = ap (λ me. position_in me.1) wins.now_is in
    omega (arith, position)
  where
    position_of : Option ShardValue → ℕ
    position_of None = 5
    position_of (Some state) = state.position

    position_in : List (ℕ × Option ShardValue) → ℕ
    position_in [] = 5
    position_in (slot ∷ slots) = position_of slot.1

pub even_word_is_won : StepMarks Fold 0 (first, []) 2 (holding, (0, Some (shard_state_at 1 pair)) ∷ [])
even_word_is_won = record {
  meets = meets_a_later_position;
  wins = λ even. take_that_wins;
  loses = λ odd. absurd (omega (arith, odd));
}

pub odd_word_is_lost : StepMarks Fold 0 (first, []) 3 (after_loss 0 3 first, [])
odd_word_is_lost = record {
  meets = meets_a_later_position;
  wins = λ even. absurd (omega (arith, even));
  loses = λ odd. refl;
}

pub odd_word_is_not_won : StepMarks Fold 0 (first, []) 3 (holding, (0, Some (shard_state_at 1 pair)) ∷ []) → ⊥
odd_word_is_not_won marks = let count : 0 ≡ 1 = ap (λ me. losses_of me.0) (marks.loses refl) in omega (arith, count)

pub takes_the_first : StepTakesFor Fold at_the_first (first, []) 2 (holding, (0, Some (shard_state_at 1 pair)) ∷ [])
takes_the_first = even_word_is_won

-- the word 4 says position 2
pub gives_at_the_end : StepGives (step 2 0 4 0 none) (holding, (0, Some (shard_state_at 2 pair)) ∷ []) 4 (after_giving 2 holding, [])
gives_at_the_end = refl

pub same_seat : (seat : SeatValue) → IsSameSeat seat (record seat { me = (first, []) })
same_seat seat = record { table = refl; seat = refl }

pub another_seat : (seat : SeatValue) → IsSameSeat (record seat { id = 0 }) (record seat { id = 1 }) → ⊥
another_seat seat same = let id : 1 ≡ 0 = same.seat in omega (arith, id)

pub slot_has_a_state : StepHasTaken 0 ((0, Some pair) ∷ [])
slot_has_a_state = record { state = pair; is = refl }

pub slot_is_empty : StepHasTaken 0 ((0, None) ∷ []) → ⊥
slot_is_empty has = let is : None ≡ Some has.state = ap first_state has.is in cc is
  where
    first_state : List (ℕ × Option ShardValue) → Option ShardValue
    first_state [] = None
    first_state (slot ∷ slots) = slot.1

pub ready_at_the_end : StepIsReady shards 0 2 (holding, (0, Some (shard_state_at 2 pair)) ∷ [])
ready_at_the_end = record {
  state = shard_state_at 2 pair;
  live = refl;
  slot = refl;
  of_shard = same_list_and_base;
  at = refl;
  within = omega arith;
  gives = holder_may_give;
}

-- the slot was not filled
pub not_ready : StepIsReady shards 0 2 (holding, (0, None) ∷ []) → ⊥
not_ready ready = slot_is_empty (record { state = ready.state; is = ready.slot })

pub loses_to_another : StepLoses 0 first (after_loss 0 3 first)
loses_to_another = record { word = 3; odd = refl; meets = meets_a_later_position; view = refl }

pub loss_without_a_word : StepLoses 0 first first → ⊥
loss_without_a_word loses = let count : 0 ≡ 1 = ap losses_of loses.view in omega (arith, count)

pub answer_of_a_take : StepAnswers shards 0 Fold first holding (Taken (shard_state_at 1 pair))
answer_of_a_take = (record { start = 0; is = refl }, meets_a_later_position, refl)

pub answer_of_a_loss : StepAnswers shards 0 Fold first (after_loss 0 3 first) Busy
answer_of_a_loss = loses_to_another

-- Busy is not returned without a loss
pub busy_without_a_loss : StepAnswers shards 0 Fold first first Busy → ⊥
busy_without_a_loss = loss_without_a_word
