-- Worked examples of upper bounds on highs, most by computing.
use Rattle.std.proofs.Common.{◌≡◌, ◌≤◌, ◌^◌, ◌-◌, [], ◌∷◌, None, Some, refl, arith}
use Rattle.space_saving.specs.{TableValue}
use Rattle.cut_merge.specs.HighBounds.{cell_count, greatest_bound, BoundsValue, bound_home}
use Rattle.cut_merge.specs.HighBounds.{bound_cell, high_bound, NoteKey}
use Rattle.cut_merge.specs.HighBounds.{AddMissing, counted_in, NoteEntries}
use Rattle.cut_merge.specs.HighBounds.{AreBoundsOf}

-- the highest twelve bits of 0, and of the multiplier
pub home_of_key_0 : bound_home 0 ≡ 0
unfolding bound_home
home_of_key_0 = refl

pub home_of_key_1 : bound_home 1 ≡ 2531
unfolding bound_home
home_of_key_1 = refl

pub cells_are_as_many_as_twelve_bits_tell_apart : cell_count ≡ 2 ^ 12
cells_are_as_many_as_twelve_bits_tell_apart = refl

pub the_greatest_bound_has_64_bits : greatest_bound ≡ 2 ^ 64 - 1
the_greatest_bound_has_64_bits = refl

-- a full table of two entries, whose least count is 3
abbrev full : TableValue
full = record {
  capacity = 2;
  entries = record { key = 8; count = 3; error = 1 } ∷ record { key = 5; count = 7; error = 0 } ∷ [];
}

-- 7 exceeds the high of a missing key by 4
pub counted_by_an_entry : counted_in full (Some (record { key = 5; count = 7; error = 0 })) ≡ 4
counted_by_an_entry = refl

pub counted_by_no_entry : counted_in full None ≡ 0
counted_by_no_entry = refl

-- one cell, in which 5 is counted, and a missing key's high of 3
abbrev bounds : BoundsValue
bounds = record { cells = 5 ∷ []; missing = 3 }

pub counted_in_the_home_of_key_0 : bound_cell bounds 0 ≡ 5
unfolding bound_home
counted_in_the_home_of_key_0 = refl

pub bound_of_key_0 : high_bound bounds 0 ≡ 8
unfolding bound_home
bound_of_key_0 = refl

-- once an entry of key 7 is counted, its home has at least what the entry adds
pub an_entry_of_key_7 : NoteKey bounds bounds 7 4 → 4 ≤ bound_cell bounds 7
an_entry_of_key_7 notes = omega (arith, notes.noted)

pub a_high_of_2_more : AddMissing bounds (record { cells = 5 ∷ []; missing = 5 }) 2
a_high_of_2_more = record { missing = refl; raises = omega arith; cells = refl }

pub a_high_is_not_left_out : ¬ AddMissing bounds bounds 2
a_high_is_not_left_out adds = let missing : 3 ≡ 5 = adds.missing in omega (arith, missing)

pub no_entries_change_nothing : NoteEntries (record { capacity = 2; entries = [] }) bounds bounds 0
no_entries_change_nothing = record { missing = refl; raises = λ key. omega arith; noted = λ key. omega arith }

-- without runs no key has a high
pub bounds_of_no_runs : AreBoundsOf [] bounds
bounds_of_no_runs = record { highs = λ key. omega arith }
