-- What a table keeps through an add, and the interval of a key.
use Rattle.std.proofs.Common.{◌≡◌, ℕ, ◌+◌, ◌^◌, ◌<◌, ◌≤◌, ltb, List, [], ◌∷◌, length, map, get_or, None, sym, ap, ◌∙◌}
use Rattle.std.proofs.Common.{subst, arith}
use Rattle.std.specs.List.{AllByRecursion}
use Rattle.std.proofs.lemmas.Bool.{cond-true, cond-false, lt-ltb, le-ltb}
use Rattle.std.proofs.lemmas.List.Elements.{recursion_from_All}
use Rattle.key_index.specs.{KeyEntries}
use Rattle.space_saving.specs.declared.entry.Entry.{Entry}
use Rattle.space_saving.specs.{TableAdd, TableValue, after_step, table_entry, table_total, least_count}
use Rattle.space_saving.specs.{interval_from, interval_in, HasSmallError, IsTable, AreTableEntries}
use Rattle.rank_table.specs.declared.slot.Slot.{Slot}
use Rattle.rank_table.specs.SlotOrder.{in_rank_order, ordered_entries, AreOrdered}
use Rattle.rank_table.specs.Ranks.{HasLeast}
use Rattle.rank_table.specs.Slot.{Slots}
use Rattle.rank_table.specs.RankTable.{AreParts, IsRankTable}
use Rattle.rank_table.proofs.RankedSlotLemmas.{ranked_slot_entry, all-ranked_slot_at}
use Rattle.rank_table.specs.Marks.{numbered}
use Rattle.rank_table.proofs.SlotChangeLemmas.{AreOrdered-change_of_time, least_entry_in_slot_change}
use Rattle.rank_table.proofs.SlotChangeLemmas.{slot_change_entry_count}
use Rattle.rank_table.proofs.NumberedEntryLemmas.{ordered_entries-numbered}
use Rattle.rank_table.proofs.NumberedEntryLemmas.{AreOrdered-all_numbered_entries}
use Rattle.rank_table.proofs.SlotRiseLemmas.{all_slots_from_rise_order}

-- a table after an add at this time
pub IsRankTable-add : (capacity clock now total weight : ℕ) (index index_after : KeyEntries) (ranked ranked_after : Slots) (add : TableAdd)
    → IsRankTable capacity clock total index ranked
    → add.weight ≡ weight → 1 ≤ weight → table_total (ordered_entries ranked.slots) + weight < 2 ^ 56
    → ((entries : List Entry) → IsTable capacity entries → IsTable capacity (after_step capacity entries add))
    → ((entries : List Entry) → table_total (after_step capacity entries add) ≡ table_total entries + add.weight)
    → ranked_after.capacity ≡ ranked.capacity → AreParts ranked_after.capacity index_after ranked_after
    → now < 2 ^ 18 → AreOrdered (now + 1) ranked_after.slots
    → ordered_entries ranked_after.slots ≡ after_step capacity (ordered_entries ranked.slots) add
    → IsRankTable capacity (now + 1) (total + weight) index_after ranked_after
IsRankTable-add capacity clock now total weight index index_after ranked ranked_after add table is weighs fits stays_table adds same together early slots
    stepped =
    let grew : table_total (ordered_entries ranked_after.slots) ≡ table_total (ordered_entries ranked.slots) + weight = ap table_total stepped
    ∙ adds (ordered_entries ranked.slots) ∙ ap (λ n. table_total (ordered_entries ranked.slots) + n) is in
    let width : ranked_after.capacity ≡ capacity = same ∙ table.together.as_many in
    record {
      least = table.least;
      most = table.most;
      together = subst (λ n. AreParts n index_after ranked_after) width together;
      slots = slots;
      clocked = omega arith;
      adds_up = omega (arith, table.adds_up, grew);
      are_entries = record {
        is_table = subst (IsTable capacity) (sym stepped) (stays_table (ordered_entries ranked.slots) table.are_entries.is_table);
        bounded = omega (arith, grew);
      };
    }

-- each slot's error is below its count
rank_table_all_from_map : (P : Entry → Type 0) (slots : List Slot) → AllByRecursion P (map ranked_slot_entry slots)
    → AllByRecursion (λ slot. P slot.entry) slots
rank_table_all_from_map P [] all = tt
rank_table_all_from_map P (slot ∷ rest) all = (all.0, rank_table_all_from_map P rest all.1)

pub rank_table_error_below_count : (capacity place : ℕ) (slots : List Slot) (d : Slot) → AreTableEntries capacity (ordered_entries slots)
    → place < length slots
    → (get_or slots place d).entry.error < (get_or slots place d).entry.count
rank_table_error_below_count capacity place slots d are within =
    let P = HasSmallError capacity (table_total (ordered_entries slots)) in
    (all-ranked_slot_at (λ slot. P slot.entry) place slots d (all_slots_from_rise_order (λ slot. P slot.entry) slots
    (rank_table_all_from_map P (in_rank_order slots)
    (recursion_from_All P (ordered_entries slots) are.is_table.small_errors))) within).0

-- the greatest weight of a missing key
pub rank_table_high_with_room : (capacity key : ℕ) (slots : List Slot) → table_entry key (ordered_entries slots) ≡ None → length slots < capacity
    → 0 ≡ (interval_in (record { capacity = capacity; entries = ordered_entries slots }) key).high
rank_table_high_with_room capacity key slots missing room =
    let table : TableValue = record { capacity = capacity; entries = ordered_entries slots } in
    sym (ap (λ o. (interval_from o table).high) missing
    ∙ cond-true {A = ℕ} (ltb (length (ordered_entries slots)) capacity) 0 (least_count (ordered_entries slots))
    (lt-ltb (length (ordered_entries slots)) capacity (omega (arith, slot_change_entry_count slots))))

pub rank_table_high_when_full : (capacity key place : ℕ) (slots : List Slot) (d : Slot) → table_entry key (ordered_entries slots) ≡ None
    → capacity ≤ length slots → AreOrdered (2 ^ 64) slots → HasLeast slots place
    → (get_or slots place d).entry.count ≡ (interval_in (record { capacity = capacity; entries = ordered_entries slots }) key).high
rank_table_high_when_full capacity key place slots d missing full are least =
    let table : TableValue = record { capacity = capacity; entries = ordered_entries slots } in
    sym (ap (λ o. (interval_from o table).high) missing
    ∙ cond-false {A = ℕ} (ltb (length (ordered_entries slots)) capacity) 0 (least_count (ordered_entries slots))
    (le-ltb (length (ordered_entries slots)) capacity (omega (arith, slot_change_entry_count slots)))
    ∙ ap least_count (least_entry_in_slot_change (2 ^ 64) place slots d (omega arith) are least))

-- as many slots as entries
pub rank_table_length_as_seen : (capacity : ℕ) (seen slots : List Slot) (table : TableValue) → seen ≡ slots
    → (let t : TableValue = record { capacity = capacity; entries = ordered_entries slots } in t ≡ table)
    → length seen ≡ length table.entries
rank_table_length_as_seen capacity seen slots table same view = ap length same ∙ sym (slot_change_entry_count slots)
    ∙ ap (λ (t : TableValue). length t.entries) view

-- the times of a table are below 2^64
pub rank_table_times_are_small : (capacity clock total : ℕ) (index : KeyEntries) (ranked : Slots) → IsRankTable capacity clock total index ranked
    → AreOrdered (2 ^ 64) ranked.slots
rank_table_times_are_small capacity clock total index ranked table =
    AreOrdered-change_of_time clock (2 ^ 64) ranked.slots (omega (arith, table.clocked)) table.slots

-- a table of entries that were inserted one after the other
pub IsRankTable-loaded : (capacity total : ℕ) (entries : List Entry) (index : KeyEntries) (ranked : Slots) → 2 ≤ capacity → capacity ≤ 4096
    → AreTableEntries capacity entries → total ≡ table_total entries
    → AreParts capacity index ranked → ranked.slots ≡ numbered 0 entries → IsRankTable capacity (length entries) total index ranked
IsRankTable-loaded capacity total entries index ranked least most are counted together slots =
    let same : ordered_entries ranked.slots ≡ entries = ap ordered_entries slots ∙ ordered_entries-numbered entries are.is_table.ascending in
    record {
      least = least;
      most = most;
      together = together;
      slots = subst (AreOrdered (length entries)) (sym slots) (AreOrdered-all_numbered_entries entries are.is_table.distinct);
      clocked = omega (arith, are.is_table.fits);
      adds_up = counted ∙ ap table_total (sym same);
      are_entries = subst (AreTableEntries capacity) (sym same) are;
    }
