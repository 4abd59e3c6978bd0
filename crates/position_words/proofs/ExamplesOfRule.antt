-- Worked examples of the rule, and of seats and states that fit the words.
use Rattle.std.proofs.Common.{◌≡◌, ℕ, zero, suc, ◌+◌, ◌*◌, ◌/◌, ◌<◌, ◌≤◌, List, [], ◌∷◌, Option, None, Some}
use Rattle.std.proofs.Common.{slice_get, length, false, refl, sym, ap, ◌∙◌, arith, subst}
use Rattle.std.specs.Prelude.{slice_index}
use Rattle.std.proofs.lemmas.Option.{same_Some}
use mathlib.Core.Option.{some, none, some-injective}
use lib.ListN.{get_elem?}
use Rattle.atomic_table.specs.Table.{State}
use Rattle.shard_state.specs.{ShardValue, shard_state_at}
use Rattle.position_words.specs.declared.view.Aim.TheVariants.{Fold, Read}
use Rattle.position_words.specs.declared.view.Held.{Held}
use Rattle.position_words.specs.declared.view.View.{View}
use Rattle.position_words.specs.View.{newcomer_view, spent_view}
use Rattle.position_words.specs.Seat.{SeatValue, IsSeatOf}
use Rattle.position_words.specs.Words.{WordsValue, IsShardAtSome, MayFollow}
use Rattle.position_words.specs.Words.{MayGiveAt}
use Rattle.position_words.specs.Words.{IsEvenWord, IsOddWord}
use Rattle.position_words.specs.Seat.{IsHoldingSeat}
use Rattle.position_words.specs.Rule.{FitsRule, IsUnderRule, IsKept}
use Rattle.position_words.proofs.Examples.{pair, single, shards, first, holding, held_first}

pub word_of_a_free_shard : IsEvenWord 4
word_of_a_free_shard = refl

pub word_of_a_held_shard : IsEvenWord 5 → ⊥
word_of_a_held_shard even = omega (arith, even)

pub odd_word : IsOddWord 5
odd_word = refl

pub even_word : IsOddWord 4 → ⊥
even_word odd = omega (arith, odd)

-- two seats, the first of which holds the first shard at position 1
abbrev other : View
other = newcomer_view first

abbrev views : List View
views = holding ∷ other ∷ []

pub first_seat_holds : IsHoldingSeat views 0 0
first_seat_holds = record { view = holding; held = held_first; at = refl; holds = refl; is = refl }

held_is : (held : Held) → holding.held ≡ Some held → held_first ≡ held
held_is held holds = same_Some (held_first) held holds

-- it is the only seat that holds a shard
only_holder : (seat place : ℕ) → IsHoldingSeat views seat place → (seat ≡ 0) × (place ≡ 0)
only_holder zero place holder =
    let view : holding ≡ holder.view = some-injective holding holder.view holder.at in
    (refl, sym holder.is ∙ sym (ap (λ h. h.shard) (held_is holder.held (ap (λ v. v.held) view ∙ holder.holds))))
only_holder (suc zero) place holder =
    let view : other ≡ holder.view = some-injective other holder.view holder.at in
    absurd (cc (ap (λ v. v.held) view ∙ holder.holds))
only_holder (suc (suc seat)) place holder = absurd (cc holder.at)

pub second_seat_holds_nothing : IsHoldingSeat views 1 0 → ⊥
second_seat_holds_nothing holder = let only = only_holder 1 0 holder in omega (arith, only.0)

-- the first shard is held at position 1, and the second is free
abbrev words : List ℕ
words = 3 ∷ 0 ∷ []

-- its view has seen no later positions
reached_by_words : (shard : ℕ) → slice_index (1 ∷ 0 ∷ []) shard ≤ slice_index words shard / 2
reached_by_words zero = omega arith
reached_by_words (suc zero) = omega arith
reached_by_words (suc (suc shard)) = omega arith

pub holder_fits : FitsRule shards words holding
holder_fits = record { opening = refl; trails = refl; reached = reached_by_words }

-- it has seen position 1 of a shard whose word is still 0
pub seen_too_much : FitsRule shards (0 ∷ 0 ∷ []) holding → ⊥
seen_too_much fits = let reached : 1 ≤ 0 = fits.reached 0 in omega (arith, reached)

pub spent_view_fits_no_shards : FitsRule shards words spent_view → ⊥
spent_view_fits_no_shards fits = omega (arith, fits.trails)

-- nor has that of the other seat
unseen : (shard : ℕ) → slice_index (0 ∷ 0 ∷ []) shard ≤ slice_index words shard / 2
unseen zero = omega arith
unseen (suc zero) = omega arith
unseen (suc (suc shard)) = omega arith

-- the slot of the first shard is out
abbrev held_once : State (Option ShardValue) View
held_once = record { words = words; homes = none ∷ some (Some single) ∷ []; views = views }

pub held_shard_is_kept : IsKept shards held_once
held_shard_is_kept = record {
  words = refl;
  slots = refl;
  within = all_within;
  even = slots_of_even;
  odd = holder_of_odd;
  held = word_of_held;
  alone = λ seat another place one two. (only_holder seat place one).0 ∙ sym (only_holder another place two).0;
  views = all_fit;
}
  where
    all_within : (place : ℕ) (shard : ShardValue) → slice_get shards place ≡ Some shard
        → slice_index words place / 2 ≤ length shard.list
    all_within zero shard is = subst (λ (s : ShardValue). 1 ≤ length s.list) (same_Some pair shard is) (omega arith)
    all_within (suc zero) shard is = omega arith
    all_within (suc (suc place)) shard is = absurd (cc is)

    slots_of_even : (place : ℕ) (shard : ShardValue) → slice_get shards place ≡ Some shard
        → IsEvenWord (slice_index words place)
        → get_elem? held_once.homes place ≡ some (some (Some (shard_state_at (slice_index words place / 2) shard)))
    slots_of_even zero shard is even = absurd (omega (arith, even))
    slots_of_even (suc zero) shard is even =
        ap (λ (s : ShardValue). some (some (Some (shard_state_at 0 s)))) (same_Some single shard is)
    slots_of_even (suc (suc place)) shard is even = absurd (cc is)

    holder_of_odd : (place : ℕ) → place < 2 → IsOddWord (slice_index words place) → (seat : ℕ) × IsHoldingSeat views seat place
    holder_of_odd zero inside odd = (0, first_seat_holds)
    holder_of_odd (suc zero) inside odd = absurd (omega (arith, odd))
    holder_of_odd (suc (suc place)) inside odd = absurd (omega (arith, inside))

    word_of_held : (seat : ℕ) (view : View) (held : Held) → get_elem? views seat ≡ some view → view.held ≡ Some held
        → slice_index words held.shard ≡ 2 * held.position + 1
    word_of_held zero view held at holds =
        subst (λ (h : Held). slice_index words h.shard ≡ 2 * h.position + 1)
        (held_is held (ap (λ v. v.held) (some-injective holding view at) ∙ holds)) refl
    word_of_held (suc zero) view held at holds = absurd (cc (ap (λ v. v.held) (some-injective other view at) ∙ holds))
    word_of_held (suc (suc seat)) view held at holds = absurd (cc at)

    all_fit : (seat : ℕ) (view : View) → get_elem? views seat ≡ some view → view.spent ≡ false
        → FitsRule shards words view
    all_fit zero view at live = subst (FitsRule shards words) (some-injective holding view at) holder_fits
    all_fit (suc zero) view at live =
        subst (FitsRule shards words) (some-injective other view at)
        (record { opening = refl; trails = refl; reached = unseen })
    all_fit (suc (suc seat)) view at live = absurd (cc at)

-- the word says position 1, and the slot has the state at 0
abbrev too_old : State (Option ShardValue) View
too_old = record { words = 2 ∷ 0 ∷ []; homes = some (Some pair) ∷ some (Some single) ∷ []; views = first ∷ [] }

pub slot_with_an_older_state : IsKept shards too_old → ⊥
slot_with_an_older_state kept =
    let older = Some pair in
    let newer = Some (shard_state_at 1 pair) in
    let slot : some (some older) ≡ some (some newer) = kept.even 0 pair refl refl in
    let at_home : older ≡ newer = some-injective older newer (some-injective (some older) (some newer) slot) in
    let state : pair ≡ shard_state_at 1 pair = same_Some pair (shard_state_at 1 pair) at_home in
    let position : 0 ≡ 1 = ap (λ (s : ShardValue). s.position) state in
    omega (arith, position)

-- the word is odd, and no seat holds the shard
abbrev held_by_none : State (Option ShardValue) View
held_by_none = record { words = 1 ∷ 0 ∷ []; homes = none ∷ some (Some single) ∷ []; views = first ∷ [] }

pub odd_word_without_a_holder : IsKept shards held_by_none → ⊥
odd_word_without_a_holder kept = let found = kept.odd 0 (omega arith) refl in none_holds found.0 found.1
  where
    none_holds : (seat : ℕ) → IsHoldingSeat (first ∷ []) seat 0 → ⊥
    none_holds zero holder = cc (ap (λ v. v.held) (some-injective first holder.view holder.at) ∙ holder.holds)
    none_holds (suc seat) holder = cc holder.at

pub rule_is_under_itself : IsUnderRule shards (IsKept shards)
rule_is_under_itself = λ state kept. kept

-- a table that allows an odd word without a holder
pub table_with_a_word_that_no_seat_gives_back : IsUnderRule shards (λ state. state ≡ held_by_none) → ⊥
table_with_a_word_that_no_seat_gives_back under = odd_word_without_a_holder (under held_by_none refl)

-- words of these shards
abbrev words_of : SeatValue → WordsValue
words_of seat = record { id = seat.table_id; opening = shards }

pub first_is_a_seat : (seat : SeatValue) → IsSeatOf (words_of seat) (record seat { me = (first, []) })
first_is_a_seat seat = record { id = refl; opening = refl; trails = refl; live = refl; slot = refl }

pub holder_has_a_slot_out : (seat : SeatValue)
    → IsSeatOf (words_of seat) (record seat { me = (holding, (0, None) ∷ []) })
holder_has_a_slot_out seat = record { id = refl; opening = refl; trails = refl; live = refl; slot = refl }

pub seat_that_was_joined : (seat : SeatValue) → IsSeatOf (words_of seat) (record seat { me = (spent_view, []) }) → ⊥
seat_that_was_joined seat of = omega (arith, of.trails)

pub same_list_and_base : IsShardAtSome shards 0 (shard_state_at 2 pair)
same_list_and_base = record { start = 0; is = refl }

pub list_of_another_shard : IsShardAtSome shards 0 single → ⊥
list_of_another_shard of =
    let count : 2 ≡ 1 = ap (λ (s : ShardValue). length s.list) (same_Some pair (shard_state_at of.start single) of.is) in
    omega (arith, count)

pub fold_may_end_later : MayFollow Fold 1 2
fold_may_end_later = omega arith

pub fold_may_not_go_back : MayFollow Fold 1 0 → ⊥
fold_may_not_go_back follows = omega (arith, follows)

pub read_leaves_the_position : MayFollow Read 1 1
read_leaves_the_position = refl

pub read_may_not_move : MayFollow Read 1 2 → ⊥
read_may_not_move follows = omega (arith, follows)

pub holder_may_give : MayGiveAt 0 2 holding
holder_may_give = record { held = held_first; holds = refl; is = refl; follows = omega arith }

pub holder_may_not_give_another_shard : MayGiveAt 1 2 holding → ⊥
holder_may_not_give_another_shard gives =
    let shard : 0 ≡ 1 = ap (λ h. h.shard) (held_is gives.held gives.holds) ∙ gives.is in
    omega (arith, shard)

pub free_seat_gives_nothing : MayGiveAt 0 2 first → ⊥
free_seat_gives_nothing gives = cc gives.holds
