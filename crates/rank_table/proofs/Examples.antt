-- Worked examples of the definitions, most by computing.
use Rattle.std.proofs.Common.{◌≡◌, ◌<◌, ◌≤◌, ◌^◌, ◌*◌, ◌+◌, ◌-◌, ◌%◌, ℕ, List, [], ◌∷◌, zero, suc, length, slice_index_or, lit<, refl, ap}
use Rattle.std.proofs.Common.{arith}
use Rattle.space_saving.specs.declared.entry.Entry.{Entry}
use Rattle.key_index.proofs.Examples.{index_for_two, index_for_two_is_empty, empty_index_lacks_keys}
use Rattle.loser_tree.specs.{HasLeaves}
use Rattle.rank_table.specs.declared.slot.Slot.{Slot}
use Rattle.rank_table.specs.Ranks.{slot_rank}
use Rattle.rank_table.specs.SlotOrder.{put_in_order, in_rank_order, ordered_entries, AreOrdered}
use Rattle.rank_table.specs.Slot.{AreApart, AreDistinct}
use Rattle.rank_table.specs.Slot.{Slots, slot_keys}
use Rattle.rank_table.specs.Words.{rank_word, IsExactWord, words_from, slot_of_word}
use Rattle.rank_table.specs.Times.{AreTimeMarks, HasTimeMarks, renumbered_slot, renumbered_slots, slots_before_time, time_mark}
use Rattle.rank_table.specs.Ranks.{HasLeast, AreLeaves, AreRanked, HasRankLeaves}
use Rattle.rank_table.specs.Marks.{mark_of, marks_from, rank_of_mark, without_mark, slot_of_mark}
use Rattle.rank_table.specs.Marks.{numbered}
use Rattle.rank_table.specs.Steps.{raised_slot, entered_slot, heir_slot}
use Rattle.rank_table.specs.Steps.{IsTakenOver}
use Rattle.rank_table.specs.RankTable.{AreParts, IsRankTable}

abbrev entry : ℕ → ℕ → ℕ → Entry
entry key count error = record { key = key; count = count; error = error }

abbrev slot : ℕ → ℕ → ℕ → ℕ → Slot
slot key count error time = record { entry = entry key count error; time = time }

-- key 1 has count 5 since time 2, key 2 count 3 since time 0, key 3 count 5 since time 1
abbrev slots : List Slot
slots = slot 1 5 0 2 ∷ slot 2 3 0 0 ∷ slot 3 5 0 1 ∷ []

-- a greater count outranks any time
pub rank_by_count_first : slot_rank (slot 2 3 0 9) < slot_rank (slot 1 4 0 0)
unfolding slot_rank
rank_by_count_first = omega arith

-- in a tie, the slot with the earlier time comes first
pub slots_in_order : in_rank_order slots ≡ slot 2 3 0 0 ∷ slot 3 5 0 1 ∷ slot 1 5 0 2 ∷ []
unfolding slot_rank
slots_in_order = refl

pub entries_in_order : ordered_entries slots ≡ entry 2 3 0 ∷ entry 3 5 0 ∷ entry 1 5 0 ∷ []
unfolding slot_rank
entries_in_order = refl

pub put_in_between : put_in_order (slot 4 4 0 3) (slot 2 3 0 0 ∷ slot 3 5 0 1 ∷ []) ≡ slot 2 3 0 0 ∷ slot 4 4 0 3 ∷ slot 3 5 0 1 ∷ []
unfolding slot_rank
put_in_between = refl

pub slots_apart : AreApart (slot 1 5 0 2) (slot 2 3 0 0)
slots_apart = ((λ same. omega (arith, same)), (λ same. omega (arith, same)))

pub one_key_twice : AreDistinct (slot 1 5 0 2 ∷ slot 1 3 0 0 ∷ []) → ⊥
one_key_twice distinct = distinct.0.0.0 refl

pub one_time_twice : AreDistinct (slot 1 5 0 2 ∷ slot 2 3 0 2 ∷ []) → ⊥
one_time_twice distinct = distinct.0.0.1 refl

pub slots_of_two_keys : AreOrdered 3 (slot 1 5 0 2 ∷ slot 2 3 0 0 ∷ [])
slots_of_two_keys = record {
  timed = (omega arith, (omega arith, tt));
  distinct = ((slots_apart, tt), (tt, tt));
}

-- a slot whose time is not before now
pub slot_of_now : AreOrdered 2 (slot 1 5 0 2 ∷ []) → ⊥
slot_of_now are = omega (arith, are.timed.0)

-- excess 2 over base 3, time 2, place 1
pub word_of_a_rank : rank_word 3 (slot 1 5 0 2) 1 ≡ 2 * 2 ^ 30 + 2 * 4096 + 1
unfolding rank_word
word_of_a_rank = refl

-- an excess of 2^34 and one of 2^35 have the same word
pub far_counts_have_one_word : rank_word 0 (slot 1 17179869184 0 2) 1 ≡ rank_word 0 (slot 1 34359738368 0 2) 1
unfolding rank_word
far_counts_have_one_word = refl

pub small_rank_is_exact : IsExactWord 3 (slot 1 5 0 2)
small_rank_is_exact = omega arith

pub cut_off_count_is_not : IsExactWord 0 (slot 1 17179869183 0 2) → ⊥
cut_off_count_is_not exact = omega (arith, exact)

-- two slots have times before 6: key 2 since 0, key 3 since 4
pub slots_before_a_time : slots_before_time 6 (slot 1 5 0 7 ∷ slot 2 3 0 0 ∷ slot 3 5 0 4 ∷ []) ≡ 2
slots_before_a_time = refl

pub renumbered_one : renumbered_slot (slot 1 5 0 7 ∷ slot 2 3 0 0 ∷ []) (slot 1 5 0 7) ≡ slot 1 5 0 1
renumbered_one = refl

-- times 7, 0 and 4 become 2, 0 and 1, in their places
pub renumbered_three : renumbered_slots (slot 1 5 0 7 ∷ slot 2 3 0 0 ∷ slot 3 5 0 4 ∷ []) ≡ slot 1 5 0 2 ∷ slot 2 3 0 0 ∷ slot 3 5 0 1 ∷ []
renumbered_three = refl

pub mark_of_a_time : time_mark 1 (slot 2 3 0 7) ≡ 8 * 4096 + 1
mark_of_a_time = refl

-- place 1 has no slot
pub marks_of_times : AreTimeMarks 2 (8 * 4096 ∷ 18446744073709551615 ∷ []) (slot 1 5 0 7 ∷ [])
marks_of_times = record { shape = refl; marked = marked; empty = empty }
  where
    marked : (place : ℕ) (d : Slot) → place < 1
        → slice_index_or (8 * 4096 ∷ 18446744073709551615 ∷ []) place 0 ≡ time_mark place (slice_index_or (slot 1 5 0 7 ∷ []) place d)
    marked zero d within = refl
    marked (suc place) d within = absurd (omega arith)

    empty : (place : ℕ) → 1 ≤ place → place < 2 → slice_index_or (8 * 4096 ∷ 18446744073709551615 ∷ []) place 0 ≡ 2 ^ 64 - 1
    empty zero behind inside = absurd (omega arith)
    empty (suc zero) behind inside = refl
    empty (suc (suc place)) behind inside = absurd (omega arith)

-- a leaf that an empty place has by mistake: it would sort as the slot of time 0 there
pub empty_place_has_a_mark : AreTimeMarks 2 (8 * 4096 ∷ 1 ∷ []) (slot 1 5 0 7 ∷ []) → ⊥
empty_place_has_a_mark marks = omega (arith, marks.empty 1 (omega arith) (omega arith))

pub least_of_two : HasLeast (slot 1 5 0 2 ∷ slot 2 3 0 0 ∷ []) 1
unfolding slot_rank
least_of_two = record { within = omega arith; least = least }
  where
    least : (other : ℕ) (d : Slot) → other < 2 → slot_rank (slot 2 3 0 0) ≤ slot_rank (slice_index_or (slot 1 5 0 2 ∷ slot 2 3 0 0 ∷ []) other d)
    least zero d inside = omega arith
    least (suc zero) d inside = omega arith
    least (suc (suc other)) d inside = absurd (omega arith)

pub greater_is_not_least : HasLeast (slot 1 5 0 2 ∷ slot 2 3 0 0 ∷ []) 0 → ⊥
unfolding slot_rank
greater_is_not_least least = omega (arith, least.least 1 without_mark (omega arith))

-- there must be as many leaves as the capacity
pub leaf_is_missing : AreLeaves 2 0 (0 ∷ []) [] → ⊥
leaf_is_missing leaves = omega (arith, leaves.shape)

-- a leaf of place 1 at place 0
pub leaf_of_another_place : AreLeaves 2 0 (1 ∷ 1 ∷ []) [] → ⊥
leaf_of_another_place leaves = omega (arith, leaves.early 0 (omega arith) (omega arith))

-- one leaf is the only node of its tree
tree_of_one_leaf : (word : ℕ) → HasLeaves (word ∷ []) (word ∷ [])
tree_of_one_leaf word = record {
  least = λ node. word;
  shape = refl;
  some = omega arith;
  few = omega arith;
  leaf = leaf;
  meet = λ node inner within. absurd (omega arith);
  loser = λ node inner within. absurd (omega arith);
  winner = refl;
}
  where
    leaf : (place : ℕ) → place < 1 → word ≡ slice_index_or (word ∷ []) place 0
    leaf zero within = refl
    leaf (suc place) within = absurd (omega arith)

pub tree_without_slots : HasRankLeaves 1 0 (0 ∷ []) []
tree_without_slots = record {
  leaves = 0 ∷ [];
  in_tree = tree_of_one_leaf 0;
  are_leaves = record {
    most = omega arith;
    shape = refl;
    fits = omega arith;
    placed = placed;
    early = early;
    below = λ place d within. absurd (omega arith);
    based = λ place d within. absurd (omega arith);
    timed = λ place d within. absurd (omega arith);
  };
}
  where
    placed : (place : ℕ) → place < 1 → slice_index_or (0 ∷ []) place 0 % 4096 ≡ place
    placed zero within = refl
    placed (suc place) within = absurd (omega arith)

    early : (place : ℕ) → 0 ≤ place → place < 1 → slice_index_or (0 ∷ []) place 0 ≡ place
    early zero behind within = refl
    early (suc place) behind within = absurd (omega arith)

-- the leaf of an empty place is the place
pub tree_with_a_word_of_no_slot : HasRankLeaves 1 0 (4096 ∷ []) [] → ⊥
tree_with_a_word_of_no_slot has =
    let one = has.are_leaves.shape in
    omega (
      arith,
      has.in_tree.winner,
      has.in_tree.leaf 0 (omega arith),
      ap has.in_tree.least (let e : length has.leaves + 0 ≡ 1 = omega arith in e),
      has.are_leaves.early 0 (omega arith) (omega arith),
    )

-- where there is no slot, the mark is the greatest number
pub tree_of_marks_without_slots : HasTimeMarks 1 (18446744073709551615 ∷ []) []
tree_of_marks_without_slots = record {
  leaves = 18446744073709551615 ∷ [];
  in_tree = tree_of_one_leaf 18446744073709551615;
  are_marks = record { shape = refl; marked = λ place d within. absurd (omega arith); empty = empty };
}
  where
    empty : (place : ℕ) → 0 ≤ place → place < 1 → slice_index_or (18446744073709551615 ∷ []) place 0 ≡ 2 ^ 64 - 1
    empty zero behind within = refl
    empty (suc place) behind within = absurd (omega arith)

pub tree_with_a_mark_of_no_slot : HasTimeMarks 1 (4096 ∷ []) [] → ⊥
tree_with_a_mark_of_no_slot has =
    let one = has.are_marks.shape in
    omega (
      arith,
      has.in_tree.winner,
      has.in_tree.leaf 0 (omega arith),
      ap has.in_tree.least (let e : length has.leaves + 0 ≡ 1 = omega arith in e),
      has.are_marks.empty 0 (omega arith) (omega arith),
    )

-- a time of 2^18 doesn't fit into a word
pub slot_of_a_late_time : AreLeaves 1 0 (0 ∷ []) (slot 1 5 0 262144 ∷ []) → ⊥
slot_of_a_late_time leaves = omega (arith, leaves.timed 0 without_mark (omega arith))

pub grown_slot : raised_slot 4 7 (slot 1 5 2 2) ≡ slot 1 9 2 7
grown_slot = refl

pub fresh_slot : entered_slot 6 4 7 ≡ slot 6 4 0 7
fresh_slot = refl

-- the count of the slot that is taken over becomes the error
pub taken_over_slot : heir_slot 6 4 7 (slot 2 3 1 0) ≡ slot 6 7 3 7
taken_over_slot = refl

pub mark_of_a_slot : mark_of 1 (slot 2 3 1 8) ≡ entry 1 3 8
mark_of_a_slot = refl

pub marks_of_slots : marks_from 0 slots ≡ entry 0 5 2 ∷ entry 1 3 0 ∷ entry 2 5 1 ∷ []
marks_of_slots = refl

pub rank_of_a_mark : rank_of_mark (mark_of 1 (slot 2 3 1 8)) ≡ slot_rank (slot 2 3 1 8)
unfolding slot_rank rank_of_mark
rank_of_a_mark = refl

pub slot_of_a_mark : slot_of_mark slots (entry 1 3 0) ≡ slot 2 3 0 0
slot_of_a_mark = refl

pub slot_of_a_wrong_mark : slot_of_mark slots (entry 9 3 0) ≡ without_mark
slot_of_a_wrong_mark = refl

-- 5 * 2^30 + 2 * 4,096, then 3 * 2^30 + 1
pub words_of_slots : words_from 0 (slot 0 5 0 2 ∷ slot 2 3 0 0 ∷ []) ≡ 5368717312 ∷ 3221225473 ∷ []
unfolding rank_word
words_of_slots = refl

pub slot_of_a_word : slot_of_word (slot 0 5 0 2 ∷ slot 2 3 0 0 ∷ []) 3221225473 ≡ slot 2 3 0 0
slot_of_a_word = refl

pub entries_by_their_numbers : numbered 0 (entry 2 3 0 ∷ entry 1 5 0 ∷ []) ≡ slot 2 3 0 0 ∷ slot 1 5 0 1 ∷ []
entries_by_their_numbers = refl

abbrev two_slots : Slots
two_slots = record { capacity = 2; slots = slot 1 5 0 2 ∷ slot 2 3 0 0 ∷ [] }

pub keys_of_the_slots : slot_keys two_slots.slots ≡ 1 ∷ 2 ∷ []
keys_of_the_slots = refl

pub keys_of_no_slots : AreParts 2 index_for_two (record { capacity = 2; slots = [] })
keys_of_no_slots = record { roomy = refl; as_many = refl; keyed = index_for_two_is_empty }

-- an index in which no key was entered
pub missing_keys : AreParts 2 index_for_two two_slots → ⊥
missing_keys together = empty_index_lacks_keys 1 (2 ∷ []) together.keyed

-- there is no table of capacity 0
pub no_room_for_slots : AreRanked 0 4 0 [] [] → ⊥
no_room_for_slots ranked = omega (arith, ranked.some)

-- key 6 takes over the slot of key 2
pub slot_taken_over : IsTakenOver 6 4 7 two_slots (record { capacity = 2; slots = slot 1 5 0 2 ∷ slot 6 7 3 7 ∷ [] })
slot_taken_over = record { place = 1; least = least_of_two; taken = λ d. refl }

pub empty_table : IsRankTable 2 0 0 index_for_two (record { capacity = 2; slots = [] })
empty_table = record {
  least = omega arith;
  most = omega arith;
  together = keys_of_no_slots;
  slots = record { timed = tt; distinct = tt };
  clocked = omega arith;
  adds_up = refl;
  are_entries = record {
    is_table = record { fits = omega arith; ascending = tt; distinct = tt; small_errors = λ k d below. absurd (omega arith) };
    bounded = lit< tt;
  };
}

-- a clock of 2^18 + 1 is past the times that fit into a word
pub clock_past_its_end : IsRankTable 2 262145 0 index_for_two (record { capacity = 2; slots = [] }) → ⊥
clock_past_its_end table = omega (arith, table.clocked)
