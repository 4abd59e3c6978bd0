-- A seat stays one of its words.
use Rattle.std.proofs.Common.{◌≡◌, ℕ, ◌*◌, ◌/◌, ◌<◌, ◌≤◌, arith, false, List, [], ◌∷◌, length, slice_get, Option}
use Rattle.std.proofs.Common.{None, Some, refl, sym, ap, ◌∙◌, subst}
use Rattle.atomic_table.specs.Table.{Me, Allows, step}
use mathlib.Core.Option.{none}
use Rattle.std.proofs.lemmas.Option.{slice_get_within, same_Some}
use Rattle.shard_state.specs.{ShardValue, shard_state_at}
use Rattle.position_words.specs.declared.view.Aim.{Aim}
use Rattle.position_words.specs.declared.view.Held.{Held}
use Rattle.position_words.specs.declared.view.Trail.{Trail}
use Rattle.position_words.specs.declared.view.View.{View}
use Rattle.position_words.specs.View.{with_trail, trail_after_loss, trail_after_win, after_win}
use Rattle.position_words.specs.View.{trail_after_give, after_giving, after_give_held}
use Rattle.position_words.specs.declared.view.Aim.TheVariants.{Fold, Read}
use Rattle.position_words.specs.Seat.{SeatValue, view, slots_out, IsSeatOf}
use Rattle.position_words.specs.Words.{WordsValue, IsShardAtSome, MayFollow}
use Rattle.position_words.specs.Words.{MayGiveAt}
use Rattle.position_words.specs.Words.{IsOddWord}
use Rattle.position_words.specs.Rule.{IsKept}
use Rattle.position_words.specs.Steps.{StepGives, StepHasTaken, StepIsReady, IsSameSeat}
use Rattle.position_words.specs.Steps.{StepMarks, StepMeets}
use Rattle.position_words.proofs.PositionWordLemmas.{position_word_even_unless_odd}
use Rattle.position_words.proofs.AllowedStepLemmas.{give_step_is_allowed}
use Rattle.position_words.proofs.TrailLemmas.{length_of_changed_trails}

-- the state in the first of some slots
abbrev seat_first_state : List (ℕ × Option ShardValue) → Option ShardValue
seat_first_state [] = None
seat_first_state (slot ∷ slots) = slot.1

-- a seat with a live view of the shards, and the slot that goes with what it holds
pub is_seat : (words : WordsValue) (seat : SeatValue) (now : View) (slots : List (ℕ × Option ShardValue))
    → seat.table_id ≡ words.id → seat.me ≡ (now, slots)
    → now.opening ≡ words.opening → length now.trails ≡ length words.opening → now.spent ≡ false
    → slots ≡ slots_out now.held → IsSeatOf words seat
is_seat words seat now slots id me opening trails live slot = record {
  id = id;
  opening = ap (λ m. m.0.opening) me ∙ opening;
  trails = ap (λ m. length m.0.trails) me ∙ trails;
  live = ap (λ m. m.0.spent) me ∙ live;
  slot = ap (λ m. m.1) me ∙ slot ∙ ap (λ m. slots_out m.0.held) (sym me);
}

-- a seat stays one of its words after a step at one shard that leaves what it holds
pub seat_stays_after_change : (words : WordsValue) (before after : SeatValue) (change : Trail → Trail) (place : ℕ)
    → IsSeatOf words before → IsSameSeat before after
    → after.me ≡ (with_trail change place (view before), before.me.1) → IsSeatOf words after
seat_stays_after_change words before after change place of same me =
    is_seat words after (with_trail change place (view before)) before.me.1 (same.table ∙ of.id) me of.opening
    (length_of_changed_trails change place (view before).trails ∙ of.trails) of.live of.slot

-- a shard is given back at no earlier position
pub seat_gives_no_earlier : (aim : Aim) (met position : ℕ) → MayFollow aim met position → met ≤ position
seat_gives_no_earlier Fold met position follows = follows
seat_gives_no_earlier Read met position follows = omega (arith, follows)

-- the slot is filled with the state, and may be given back
pub seat_may_give_back : (shards : List ShardValue) (slots seat place position : ℕ) (me : Me (Option ShardValue) View)
    (state : ShardValue) → me.0.spent ≡ false
    → me.1 ≡ (place, Some state) ∷ [] → IsShardAtSome shards place state → MayGiveAt place position me.0
    → state.position ≡ position → state.position ≤ length state.list
    → Allows (IsKept shards) slots seat me place (λ _. 2 * position)
    (λ _. StepGives (step slots place (2 * position) 0 none) me (2 * position))
seat_may_give_back shards slots seat place position me state live out of gives at ends =
    let here : shard_state_at position (shard_state_at of.start state) ≡ state = ap (λ p. shard_state_at p state) (sym at) in
    give_step_is_allowed shards slots seat place position me gives.held (shard_state_at of.start state) live gives.holds gives.is
    (seat_gives_no_earlier gives.held.aim gives.held.position position gives.follows)
    (omega (arith, at, ends)) of.is (out ∙ ap (λ s. (place, Some s) ∷ []) (sym here))

pub seat_shard_is_inside : (shards : List ShardValue) (place : ℕ) (state : ShardValue) → IsShardAtSome shards place state
    → place < length shards
seat_shard_is_inside shards place state of = slice_get_within shards place (shard_state_at of.start state) of.is

-- a give: the slot that is out with the seat is empty, then has the state, and is at last no longer out
module _ (words : WordsValue) (before filled after : SeatValue) (shard position : ℕ) (state : ShardValue) where
  pub seat_slot_is_empty : IsSeatOf words before → MayGiveAt shard position (view before) → before.me.1 ≡ (shard, None) ∷ []
  seat_slot_is_empty of gives = of.slot ∙ ap slots_out gives.holds ∙ ap (λ k. (k, None) ∷ []) gives.is

  pub seat_is_ready_to_give : IsSeatOf words before → IsShardAtSome words.opening shard state
      → MayGiveAt shard state.position (view before) → position ≡ state.position → position ≤ length state.list
      → filled.me ≡ (view before, (shard, Some state) ∷ []) → StepIsReady words.opening shard position filled.me
  seat_is_ready_to_give of of_shard gives at ends me = record {
    state = state;
    live = ap (λ m. m.0.spent) me ∙ of.live;
    slot = ap (λ m. m.1) me;
    of_shard = of_shard;
    at = sym at;
    within = omega (arith, at, ends);
    gives =
        subst (λ v. MayGiveAt shard position v) (sym (ap (λ m. m.0) me))
        (subst (λ p. MayGiveAt shard p (view before)) (sym at) gives);
  }

  pub seat_view_after_giving : position ≡ state.position → filled.me ≡ (view before, (shard, Some state) ∷ [])
      → after.me ≡ (after_giving position (view filled), [])
      → view after ≡ after_giving state.position (view before)
  seat_view_after_giving at full me = ap (λ m. m.0) me ∙ ap (λ m. after_giving position m.0) full ∙ ap (λ p. after_giving p (view before)) at

  -- what the seat has afterwards
  seat_remains_after_giving : MayGiveAt shard state.position (view before) → position ≡ state.position
      → filled.me ≡ (view before, (shard, Some state) ∷ []) → after.me ≡ (after_giving position (view filled), [])
      → (held : Held)
      × (after.me
      ≡ (
        record (with_trail (trail_after_give held.aim held.position state.position) held.shard (view before)) {
          held = None;
        },
        [],
      ))
  seat_remains_after_giving gives at full me = (
    gives.held,
    me
        ∙ ap (λ v. (v, []))
        (ap (λ m. after_giving position m.0) full ∙ ap (λ p. after_giving p (view before)) at
        ∙ ap (λ h. after_give_held state.position h (view before)) gives.holds),
  )

  pub seat_is_free_after_giving : MayGiveAt shard state.position (view before) → position ≡ state.position
      → filled.me ≡ (view before, (shard, Some state) ∷ [])
      → after.me ≡ (after_giving position (view filled), []) → (view after).held ≡ None
  seat_is_free_after_giving gives at full me = let is = seat_remains_after_giving gives at full me in ap (λ m. m.0.held) is.1

  pub seat_stays_after_giving : after.me ≡ (after_giving position (view filled), [])
      → filled.me ≡ (view before, (shard, Some state) ∷ []) → position ≡ state.position → IsSameSeat filled after
      → IsSameSeat before filled → MayGiveAt shard state.position (view before) → IsSeatOf words before → IsSeatOf words after
  seat_stays_after_giving me full at also same gives of =
      let is = seat_remains_after_giving gives at full me in
      let change : Trail → Trail = trail_after_give is.0.aim is.0.position state.position in
      is_seat words after (record (with_trail change is.0.shard (view before)) { held = None }) []
      (also.table ∙ same.table ∙ of.id) is.1 of.opening
      (length_of_changed_trails change is.0.shard (view before).trails ∙ of.trails) of.live refl

-- a take that met an odd word
pub seat_stays_after_losing : (words : WordsValue) (before after : SeatValue) (aim : Aim) (shard word : ℕ)
    → StepMarks aim shard before.me word after.me → IsOddWord word → IsSameSeat before after → IsSeatOf words before
    → IsSeatOf words after
seat_stays_after_losing words before after aim shard word marks odd same of =
    seat_stays_after_change words before after (trail_after_loss word) shard of same (marks.loses odd)

-- a take that met an even word: the slot that came out with the seat has a state, and then none
module _ (words : WordsValue) (before marked after : SeatValue) (aim : Aim) (shard word : ℕ) where
  -- what a seat that won has
  seat_has_won : IsSeatOf words before → (view before).held ≡ None → StepMarks aim shard before.me word marked.me → (IsOddWord word → ⊥)
      → (state : ShardValue) × (slice_get words.opening shard ≡ Some state)
      × (marked.me ≡ (after_win aim shard (word / 2) (view before), (shard, Some (shard_state_at (word / 2) state)) ∷ []))
  seat_has_won of free marks not_odd =
      let seat_has_won = marks.wins (position_word_even_unless_odd word not_odd) in
      let nothing : before.me.1 ≡ [] = of.slot ∙ ap slots_out free in (
        seat_has_won.state,
        ap (λ ss. slice_get ss shard) (sym of.opening) ∙ seat_has_won.is,
        seat_has_won.now_is
            ∙ ap (λ c. (after_win aim shard (word / 2) (view before), (shard, Some (shard_state_at (word / 2) seat_has_won.state)) ∷ c))
            nothing,
      )

  pub seat_slot_after_winning : IsSeatOf words before → (view before).held ≡ None → StepMarks aim shard before.me word marked.me
      → (IsOddWord word → ⊥) → StepHasTaken shard marked.me.1
  seat_slot_after_winning of free marks not_odd =
      let is = seat_has_won of free marks not_odd in record { state = shard_state_at (word / 2) is.0; is = ap (λ m. m.1) is.2 }

  pub seat_id_after_winning : IsSeatOf words before → IsSameSeat before marked → marked.table_id ≡ words.id
  seat_id_after_winning of same = same.table ∙ of.id

  pub seat_stays_after_winning : IsSeatOf words before → (view before).held ≡ None → StepMarks aim shard before.me word marked.me
      → (IsOddWord word → ⊥) → IsSameSeat before marked → IsSameSeat marked after
      → after.me ≡ (view marked, (shard, None) ∷ []) → IsSeatOf words after
  seat_stays_after_winning of free marks not_odd same also me =
      let is = seat_has_won of free marks not_odd in
      is_seat words after (after_win aim shard (word / 2) (view before)) ((shard, None) ∷ [])
      (also.table ∙ same.table ∙ of.id) (me ∙ ap (λ m. (m.0, (shard, None) ∷ [])) is.2) of.opening
      (length_of_changed_trails (trail_after_win aim (word / 2)) shard (view before).trails ∙ of.trails) of.live refl

  -- the state that came out
  pub seat_answer_after_winning : (out : ShardValue) → IsSeatOf words before → (view before).held ≡ None
      → StepMarks aim shard before.me word marked.me → (IsOddWord word → ⊥)
      → marked.me.1 ≡ (shard, Some out) ∷ [] → after.me ≡ (view marked, (shard, None) ∷ [])
      → IsShardAtSome words.opening shard out × StepMeets shard out.position (view before)
      × (view after ≡ after_win aim shard out.position (view before))
  seat_answer_after_winning out of free marks not_odd out_is me =
      let is = seat_has_won of free marks not_odd in
      let state_is : shard_state_at (word / 2) is.0 ≡ out =
      same_Some (shard_state_at (word / 2) is.0) out (ap seat_first_state (ap (λ m. m.1) (sym is.2) ∙ out_is)) in
      subst (λ (o : ShardValue).
      IsShardAtSome words.opening shard o × StepMeets shard o.position (view before)
      × (view after ≡ after_win aim shard o.position (view before))) state_is
      (record { start = is.0.position; is = is.1 }, marks.meets, ap (λ m. m.0) me ∙ ap (λ m. m.0) is.2)
