-- Worked examples of the definitions, most by computing.
use Rattle.std.proofs.Common.{◌≡◌, ◌≤◌, ℕ, List, [], ◌∷◌, None, Some, refl, lit<, arith, ◌*◌, ◌^◌}
use Rattle.std.proofs.lemmas.List.Elements.{All-from_recursion, All-head}
use Rattle.space_saving.specs.declared.entry.Entry.{Entry}
use Rattle.space_saving.specs.Summary.{TableAdd, TableValue, TableInterval, put_into, table_entry, table_without}
use Rattle.space_saving.specs.Summary.{replace_head, enter_table}
use Rattle.space_saving.specs.Summary.{after_step_from, after_step, table_of, table_total, least_count}
use Rattle.space_saving.specs.Summary.{interval_from}
use Rattle.space_saving.specs.Summary.{interval_in, interval_after, weight_of_key, total_added}
use Rattle.space_saving.specs.Summary.{RisesFrom, KeysApart}
use Rattle.space_saving.specs.Summary.{HasSmallError, IsTable, AreTableEntries, IsKeptTable, AreWeighed}
use Rattle.space_saving.specs.Summary.{least_capacity, most_capacity, table_limit}
use Rattle.space_saving.specs.Places.{IsPlaceOf}

-- this weight for this key
abbrev add : ℕ → ℕ → TableAdd
add key weight = record { key = key; weight = weight }

abbrev entry : ℕ → ℕ → ℕ → Entry
entry key count error = record { key = key; count = count; error = error }

-- 5 for key 1, 3 for key 2, 1 for key 1, 3 for key 2
abbrev two_keys : List TableAdd
two_keys = add 1 5 ∷ add 2 3 ∷ add 1 1 ∷ add 2 3 ∷ []

-- an entry whose count grows to that of another comes last in the tie
pub grown_entries_stand_last : table_of 2 two_keys ≡ entry 1 6 0 ∷ entry 2 6 0 ∷ []
grown_entries_stand_last = refl

pub weight_of_the_first_key : weight_of_key 1 two_keys ≡ 6
weight_of_the_first_key = refl

-- 5 for key 1, 3 for key 2, 1 for key 3
abbrev three_keys : List TableAdd
three_keys = add 1 5 ∷ add 2 3 ∷ add 3 1 ∷ []

-- a new key takes free room with error 0
pub new_key_takes_room : table_of 3 three_keys ≡ entry 3 1 0 ∷ entry 2 3 0 ∷ entry 1 5 0 ∷ []
new_key_takes_room = refl

-- in a full table it replaces the least entry, whose count becomes its error
pub new_key_replaces_the_least : table_of 2 three_keys ≡ entry 3 4 3 ∷ entry 1 5 0 ∷ []
new_key_replaces_the_least = refl

pub interval_of_an_entry : interval_after 2 three_keys 3 ≡ record { low = 1; high = 4 }
interval_of_an_entry = refl

-- a key that was replaced may still have the least count
pub interval_of_a_missing_key : interval_after 2 three_keys 2 ≡ record { low = 0; high = 4 }
interval_of_a_missing_key = refl

-- in a table with free room a missing key has no weight
pub interval_with_room_left : interval_after 4 three_keys 7 ≡ record { low = 0; high = 0 }
interval_with_room_left = refl

pub counts_add_up : table_total (table_of 2 three_keys) ≡ total_added three_keys
counts_add_up = refl

pub adds_that_weigh : AreWeighed three_keys
adds_that_weigh = All-from_recursion (λ a. 1 ≤ a.weight) three_keys (omega arith, (omega arith, (omega arith, tt)))

-- a weight of 0 is not allowed
pub add_of_nothing : AreWeighed (add 2 0 ∷ []) → ⊥
add_of_nothing all = omega (arith, All-head (λ a. 1 ≤ a.weight) (add 2 0) [] all)

-- the full table that the three keys leave
abbrev entries : List Entry
entries = entry 3 4 3 ∷ entry 1 5 0 ∷ []

abbrev full : TableValue
full = record { capacity = 2; entries = entries }

pub count_of_the_head : least_count entries ≡ 4
count_of_the_head = refl

pub count_of_no_head : least_count [] ≡ 0
count_of_no_head = refl

pub entry_of_a_key : table_entry 1 entries ≡ Some (entry 1 5 0)
entry_of_a_key = refl

pub entry_of_a_missing_key : table_entry 2 entries ≡ None
entry_of_a_missing_key = refl

pub one_key_taken_out : table_without 3 entries ≡ entry 1 5 0 ∷ []
one_key_taken_out = refl

pub missing_key_taken_out : table_without 2 entries ≡ entries
missing_key_taken_out = refl

-- only the first of two entries with the same key is removed
pub first_of_two_taken_out : table_without 3 (entry 3 1 0 ∷ entries) ≡ entries
first_of_two_taken_out = refl

pub put_in_before_greater_counts : put_into (entry 2 4 0) entries ≡ entry 3 4 3 ∷ entry 2 4 0 ∷ entry 1 5 0 ∷ []
put_in_before_greater_counts = refl

pub put_in_last : put_into (entry 2 5 0) entries ≡ entry 3 4 3 ∷ entry 1 5 0 ∷ entry 2 5 0 ∷ []
put_in_last = refl

-- the head's count of 4 becomes the error of the key that replaces it
pub head_replaced : replace_head entries (add 2 2) ≡ entry 1 5 0 ∷ entry 2 6 4 ∷ []
head_replaced = refl

pub no_head_to_replace : replace_head [] (add 2 2) ≡ []
no_head_to_replace = refl

pub enters_free_room : enter_table 3 entries (add 2 2) ≡ entry 2 2 0 ∷ entries
enters_free_room = refl

pub enters_a_full_table : enter_table 2 entries (add 2 2) ≡ replace_head entries (add 2 2)
enters_a_full_table = refl

-- the entry of a key that is present grows and keeps its error
pub known_key_grows : after_step 2 entries (add 3 1) ≡ entry 1 5 0 ∷ entry 3 5 3 ∷ []
known_key_grows = refl

pub step_by_its_entry : after_step 2 entries (add 3 1) ≡ after_step_from (Some (entry 3 4 3)) 2 entries (add 3 1)
step_by_its_entry = refl

pub step_without_an_entry : after_step 2 entries (add 2 2) ≡ after_step_from None 2 entries (add 2 2)
step_without_an_entry = refl

pub interval_in_the_table : interval_in full 3 ≡ record { low = 1; high = 4 }
interval_in_the_table = refl

-- from nothing to the least count
abbrev unseen : TableInterval
unseen = record { low = 0; high = 4 }

pub interval_without_an_entry : interval_from None full ≡ unseen
interval_without_an_entry = refl

pub counts_that_rise : RisesFrom 4 entries
counts_that_rise = (omega arith, (omega arith, tt))

-- not all counts are at least 5
pub counts_below_five : RisesFrom 5 entries → ⊥
counts_below_five rises = omega (arith, rises.0)

pub counts_that_fall : RisesFrom 0 (entry 1 5 0 ∷ entry 3 4 3 ∷ []) → ⊥
counts_that_fall rises = omega (arith, rises.1.0)

pub keys_apart : KeysApart entries
keys_apart = (refl, (refl, tt))

pub one_key_twice : KeysApart (entry 3 4 3 ∷ entry 3 5 0 ∷ []) → ⊥
one_key_twice apart = cc

-- equal keys need not be neighbours
pub one_key_twice_around_another : KeysApart (entry 3 4 3 ∷ entry 1 5 0 ∷ entry 3 6 0 ∷ []) → ⊥
one_key_twice_around_another apart = cc

-- 3 times 2 is at most the total of 9
pub error_within_its_share : HasSmallError 2 9 (entry 3 4 3)
error_within_its_share = (omega arith, omega arith)

pub error_above_its_share : HasSmallError 2 5 (entry 3 4 3) → ⊥
error_above_its_share small = omega (arith, small.1)

-- the key must have had some weight of its own
pub error_of_the_whole_count : HasSmallError 2 9 (entry 3 4 4) → ⊥
error_of_the_whole_count small = omega (arith, small.0)

pub full_table_is_one : IsTable 2 entries
full_table_is_one = record {
  fits = omega arith;
  ascending = (omega arith, (omega arith, tt));
  distinct = keys_apart;
  small_errors =
      All-from_recursion (HasSmallError 2 9) entries (error_within_its_share, ((omega arith, omega arith), tt));
}

pub too_many_entries : IsTable 1 entries → ⊥
too_many_entries table = omega (arith, table.fits)

pub entries_of_the_full_table : AreTableEntries 2 entries
entries_of_the_full_table = record { is_table = full_table_is_one; bounded = lit< tt }

-- the counts of a table add up to less than 2^56
pub total_at_the_limit : AreTableEntries 2 (entry 1 72057594037927936 0 ∷ []) → ⊥
total_at_the_limit are = omega (arith, are.bounded)

-- memory for four entries serves a table of two
pub full_table_is_kept : IsKeptTable 2 4 9 entries
full_table_is_kept = record {
  least = omega arith;
  most = omega arith;
  has_room = omega arith;
  adds_up = refl;
  are_entries = entries_of_the_full_table;
}

pub too_little_memory : IsKeptTable 2 1 9 entries → ⊥
too_little_memory kept = omega (arith, kept.has_room)

pub place_of_key_1 : IsPlaceOf 1 entries 1
place_of_key_1 = record { within = omega arith; found = refl; rest = refl }

pub another_place_of_key_1 : IsPlaceOf 1 entries 0 → ⊥
another_place_of_key_1 place = cc

-- ---- limits

pub one_entry_is_too_few : least_capacity ≤ 1 → ⊥
one_entry_is_too_few enough = omega (arith, enough)

pub most_entries_are_4096 : most_capacity ≡ 2 ^ 12
most_entries_are_4096 = refl

pub limit_of_a_total : 2 ^ 24 * 2 ^ 32 ≡ table_limit
limit_of_a_total = refl
