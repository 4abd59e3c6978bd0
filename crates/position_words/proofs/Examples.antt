-- Worked examples of what seats know, by computing.
use Rattle.std.proofs.Common.{◌≡◌, List, [], ◌∷◌, None, Some, true, false, refl, ap}
use Rattle.prefix_lattice.specs.{RecordValue}
use Rattle.prefix_lattice.specs.declared.grain.Grain.TheVariants.{Byte}
use Rattle.shard_state.specs.{TableShape, ShardValue, empty_snapshot}
use Rattle.position_words.specs.declared.view.Aim.TheVariants.{Fold, Read}
use Rattle.position_words.specs.declared.view.Held.{Held}
use Rattle.position_words.specs.declared.view.Joined.{Joined}
use Rattle.position_words.specs.declared.view.Trail.{Trail}
use Rattle.position_words.specs.declared.view.View.{View}
use Rattle.position_words.specs.View.{trail_from, first_view, seen_in, with_trail, after_look}
use Rattle.position_words.specs.View.{trail_after_win, after_win, trail_after_loss}
use Rattle.position_words.specs.View.{after_loss, trail_after_give, after_give_held}
use Rattle.position_words.specs.View.{after_giving, after_split, newcomer_view, joined_trails}
use Rattle.position_words.specs.View.{joined_view, after_join, spent_view}
use Rattle.position_words.specs.Seat.{slots_out}

-- tables of whole bytes, each of 4 entries
abbrev pub four : TableShape
four = record { grain = Byte; capacity = 4 }

-- a packet from 1.0.0.1 to 101.0.0.1
abbrev pub x : RecordValue
x = record { src = 0x01000001; dst = 0x65000001; weight = 1 }

-- two shards, of two packets and of one, none of which is counted
abbrev pub pair : ShardValue
pair = record { list = x ∷ x ∷ []; base = empty_snapshot four; position = 0 }

abbrev pub single : ShardValue
single = record { list = x ∷ []; base = empty_snapshot four; position = 0 }

abbrev pub shards : List ShardValue
shards = pair ∷ single ∷ []

pub trail_of_no_step : trail_from 3 ≡ record { seen = 3; looks = []; reads = []; folds = []; losses = [] }
trail_of_no_step = refl

abbrev pub first : View
first = first_view shards

pub first_has_seen_the_starts : first ≡ record {
  opening = shards;
  trails = trail_from 0 ∷ trail_from 0 ∷ [];
  lineage = [];
  splits = 0;
  joins = [];
  held = None;
  spent = false;
}
first_has_seen_the_starts = refl

pub seen_after_a_look : seen_in 0 (after_look 0 1 first) ≡ 1
seen_after_a_look = refl

pub other_shard_not_seen : seen_in 1 (after_look 0 1 first) ≡ 0
other_shard_not_seen = refl

pub second_trail_changes : with_trail (λ trail. trail_from 1) 1 first
    ≡ record first { trails = trail_from 0 ∷ trail_from 1 ∷ [] }
second_trail_changes = refl

-- looks that met positions 1 and 2
pub looks_are_kept : after_look 0 2 (after_look 0 1 first)
    ≡ record first { trails = record (trail_from 2) { looks = 1 ∷ 2 ∷ [] } ∷ trail_from 0 ∷ [] }
looks_are_kept = refl

pub take_to_fold_keeps_no_read : trail_after_win Fold 1 (trail_from 0) ≡ trail_from 1
take_to_fold_keeps_no_read = refl

pub take_to_read_keeps_a_read : trail_after_win Read 1 (trail_from 0) ≡ record (trail_from 1) { reads = 1 ∷ [] }
take_to_read_keeps_a_read = refl

-- the first seat holds the first shard, at position 1, to fold it
abbrev pub holding : View
holding = after_win Fold 0 1 first

abbrev pub held_first : Held
held_first = record { shard = 0; position = 1; aim = Fold }

pub holds_the_first : holding ≡ record first {
  trails = trail_from 1 ∷ trail_from 0 ∷ [];
  held = Some held_first;
}
holds_the_first = refl

pub half_of_an_odd_word_is_seen : trail_after_loss 5 (trail_from 1) ≡ record (trail_from 2) { losses = 5 ∷ [] }
half_of_an_odd_word_is_seen = refl

pub loss_is_kept : after_loss 0 3 first
    ≡ record first { trails = record (trail_from 1) { losses = 3 ∷ [] } ∷ trail_from 0 ∷ [] }
loss_is_kept = refl

pub fold_is_kept : trail_after_give Fold 1 2 (trail_from 1)
    ≡ record (trail_from 2) { folds = record { from = 1; to = 2 } ∷ [] }
fold_is_kept = refl

-- a take to read is recorded when it is made, not when the shard is given back
pub give_after_a_read : trail_after_give Read 1 1 (trail_after_win Read 1 (trail_from 0))
    ≡ record (trail_from 1) { reads = 1 ∷ [] }
give_after_a_read = refl

pub nothing_to_give : after_give_held 2 None first ≡ first
nothing_to_give = refl

pub gave_what_it_held : after_giving 2 holding
    ≡ record first { trails = record (trail_from 2) { folds = record { from = 1; to = 2 } ∷ [] } ∷ trail_from 0 ∷ [] }
gave_what_it_held = refl

pub two_seats_split_off : (after_split (after_split first)).splits ≡ 2
two_seats_split_off = refl

-- it has seen what the first has, made no step, and is the second that was split off
pub newcomer_has_seen : newcomer_view (after_split (after_loss 0 3 first))
    ≡ record first { trails = trail_from 1 ∷ trail_from 0 ∷ []; lineage = 1 ∷ [] }
newcomer_has_seen = refl

-- the first seat that was split off a new seat, which was the second that was split off
pub newcomer_of_a_newcomer : (newcomer_view (newcomer_view (after_split first))).lineage ≡ 1 ∷ 0 ∷ []
newcomer_of_a_newcomer = refl

-- of two seats that are split off one after the other, neither is taken for the other
pub newcomers_differ : newcomer_view (after_split first) ≡ newcomer_view first → ⊥
newcomers_differ same = cc (ap (λ (view : View). view.lineage) same)

-- what was seen of two shards: each list is ahead at one of them
abbrev far : List Trail
far = (trail_after_loss 5 (trail_from 1)) ∷ trail_from 0 ∷ []

pub both_have_seen : joined_trails far (trail_from 1 ∷ trail_from 1 ∷ [])
    ≡ record (trail_from 2) { losses = 5 ∷ [] } ∷ trail_from 1 ∷ []
both_have_seen = refl

-- a seat that was split off and lost a take leaves that step, and which split made it
abbrev lost : Joined
lost = record { lineage = 0 ∷ []; trails = record (trail_from 1) { losses = 3 ∷ [] } ∷ trail_from 0 ∷ [] }

pub loss_is_left : joined_view (after_loss 0 3 (newcomer_view first)) ≡ lost
loss_is_left = refl

-- a join takes over no step of the other, but notes them
pub joined_has_seen : after_join first (after_loss 0 3 (newcomer_view first))
    ≡ record first { trails = trail_from 1 ∷ trail_from 0 ∷ []; joins = lost ∷ [] }
joined_has_seen = refl

pub spent_knows_nothing : spent_view
    ≡ record { opening = []; trails = []; lineage = []; splits = 0; joins = []; held = None; spent = true }
spent_knows_nothing = refl

pub slot_of_a_holder : slots_out holding.held ≡ (0, None) ∷ []
slot_of_a_holder = refl

pub no_slot_out : slots_out first.held ≡ []
no_slot_out = refl
