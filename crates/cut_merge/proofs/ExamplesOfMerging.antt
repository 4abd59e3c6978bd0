-- Worked examples of how the tables of one node are merged, most by computing.
use Rattle.std.proofs.Common.{◌≡◌, ℕ, ◌≤◌, true, false, [], ◌∷◌, length, None, Some, Contains, refl, sym, ap, ◌∙◌}
use Rattle.std.proofs.Common.{subst}
use Rattle.std.proofs.Common.{⊎_elim, arith}
use Rattle.std.specs.Option.{option_map}
use Rattle.std.proofs.lemmas.Bool.{cases_eq, ne_eqb}
use Rattle.prefix_lattice.proofs.ListLemmas.{Contains-list_cons, Contains-empty_list}
use Rattle.space_saving.specs.declared.entry.Entry.{Entry}
use Rattle.space_saving.specs.{TableValue, table_entry}
use Rattle.cut_merge.specs.declared.key_interval.KeyInterval.{KeyInterval}
use Rattle.cut_merge.specs.Run.{RunValue, interval_of_entry, missing_high, IsRun, run_entry}
use Rattle.cut_merge.specs.Run.{interval_or_missing, run_interval}
use Rattle.cut_merge.specs.Run.{is_monitored, IsRunOf}
use Rattle.cut_merge.specs.NodeMerge.{NodeMergeValue, has_key}
use Rattle.cut_merge.specs.Merged.{nothing_merged, interval_for_key, keys_seen, CanBeMerged}
use Rattle.cut_merge.specs.Merged.{WithTable, NodeRepresents}

-- an entry of a key, with a count and an error
abbrev entry : ℕ → ℕ → ℕ → Entry
entry key count error = record { key = key; count = count; error = error }

-- a key, and the least and the greatest weight that it can have
abbrev weighing : ℕ → ℕ → ℕ → KeyInterval
weighing key low high = record { key = key; low = low; high = high }

-- a full table of two entries, and one with room
abbrev full : TableValue
full = record { capacity = 2; entries = entry 8 3 1 ∷ entry 5 7 0 ∷ [] }

abbrev roomy : TableValue
roomy = record { capacity = 2; entries = entry 5 4 2 ∷ [] }

-- their runs: the lower key is first
abbrev run_of_full : RunValue
run_of_full = record { intervals = weighing 5 7 7 ∷ weighing 8 2 3 ∷ []; missing = 3 }

abbrev run_of_roomy : RunValue
run_of_roomy = record { intervals = weighing 5 2 4 ∷ []; missing = 0 }

-- both tables merged
abbrev both : NodeMergeValue
both = record { runs = run_of_full ∷ run_of_roomy ∷ []; keys = 8 ∷ 5 ∷ [] }

-- the error may be another key's weight
pub interval_of_an_entry_with_an_error : interval_of_entry (entry 8 3 1) ≡ weighing 8 2 3
interval_of_an_entry_with_an_error = refl

-- a key that is missing may have been at the head
pub missing_in_a_full_table : missing_high full ≡ 3
missing_in_a_full_table = refl

pub missing_where_room_is_left : missing_high roomy ≡ 0
missing_where_room_is_left = refl

-- the only interval of a list of one
only : (interval : KeyInterval) → Contains (weighing 5 2 4 ∷ []) interval → weighing 5 2 4 ≡ interval
only interval there =
    ⊎_elim (λ is. is) (λ later. absurd (Contains-empty_list interval later))
    (Contains-list_cons (weighing 5 2 4) [] interval there)

pub one_key_is_a_run : IsRun run_of_roomy.intervals
one_key_is_a_run = record {
  rising = λ i j d before within.
      let first : i ≡ 0 = omega arith in
      let second : j ≡ 0 = omega arith in
      rw (first, second) (omega arith);
  single = λ interval other there among same. sym (only interval there) ∙ only other among;
}

-- sorted by weight, key 8 would come first, and a search for key 5 would miss it
pub sorted_by_weight_is_no_run : ¬ IsRun (weighing 8 2 3 ∷ weighing 5 7 7 ∷ [])
sorted_by_weight_is_no_run is =
    let rises : 8 ≤ 5 = is.rising 0 1 (weighing 0 0 0) (omega arith) (omega arith) in omega (arith, rises)

pub the_run_has_key_8 : run_entry 8 run_of_full ≡ Some (weighing 8 2 3)
the_run_has_key_8 = refl

pub and_not_key_6 : run_entry 6 run_of_full ≡ None
and_not_key_6 = refl

pub key_8_is_monitored : is_monitored 8 run_of_full ≡ true
key_8_is_monitored = refl

pub a_missing_key_weighs_at_least_nothing : interval_or_missing 3 None ≡ record { low = 0; high = 3 }
a_missing_key_weighs_at_least_nothing = refl

pub interval_in_one_run : run_interval run_of_full 8 ≡ record { low = 2; high = 3 }
interval_in_one_run = refl

-- 7 and 2, and 7 and 4
pub interval_of_a_monitored_key : interval_for_key both 5 ≡ record { low = 9; high = 11 }
interval_of_a_monitored_key = refl

pub interval_of_another_key : interval_for_key both 6 ≡ record { low = 0; high = 3 }
interval_of_another_key = refl

pub key_8_is_in_the_first_run : has_key 8 both.runs ≡ true
key_8_is_in_the_first_run = refl

pub key_6_is_in_none : has_key 6 both.runs ≡ false
key_6_is_in_none = refl

pub a_new_key_is_appended : keys_seen (8 ∷ 5 ∷ []) 6 ≡ 8 ∷ 5 ∷ 6 ∷ []
a_new_key_is_appended = refl

pub a_seen_key_stays : keys_seen (8 ∷ 5 ∷ []) 8 ≡ 8 ∷ 5 ∷ []
a_seen_key_stays = refl

pub bounded_in_the_full_table : CanBeMerged 8 full
bounded_in_the_full_table = record { ordered = omega arith; within_total = omega arith; above_missing = omega arith }

-- with its greatest count at the head, a table would give a missing key a greater high than a key that it has
pub unbounded_where_counts_fall : ¬ CanBeMerged 8 (record { capacity = 2; entries = entry 5 7 0 ∷ entry 8 3 1 ∷ [] })
unbounded_where_counts_fall bounded = let above : 7 ≤ 3 = bounded.above_missing in omega (arith, above)

-- the run of the table with room
pub run_of_the_table_with_room : IsRunOf run_of_roomy roomy
run_of_the_table_with_room = record {
  entries = λ key. ⊎_elim
      (λ (is : key ≡ 5).
      subst (λ k. run_entry k run_of_roomy ≡ option_map interval_of_entry (table_entry k roomy.entries)) (sym is) refl)
      (λ other. rw (ne_eqb 5 key (λ is. other (sym is))) refl)
      (cases_eq key 5);
  missing = refl;
}

pub no_run_of_a_full_table : ¬ IsRunOf run_of_roomy full
no_run_of_a_full_table is = let high : 0 ≡ 3 = is.missing in omega (arith, high)

-- the table with room, merged
abbrev first : NodeMergeValue
first = record { runs = run_of_roomy ∷ []; keys = 5 ∷ [] }

pub adds_the_table_with_room : WithTable nothing_merged roomy first
adds_the_table_with_room = record {
  run = run_of_roomy;
  is_run = run_of_the_table_with_room;
  runs = refl;
  keys = refl;
}

pub adds_no_table_twice : ¬ WithTable first roomy first
adds_no_table_twice adds = let same : 1 ≡ 2 = ap length adds.runs in omega (arith, same)

pub represents_the_table_with_room : NodeRepresents first (roomy ∷ [])
represents_the_table_with_room = record { runs = (run_of_the_table_with_room, tt); keys = refl }

pub represents_no_more_than_was_merged : ¬ NodeRepresents first (roomy ∷ full ∷ [])
represents_no_more_than_was_merged stands = stands.runs.1
