use Rattle.std.proofs.Common.{◌^◌, sym, ap, arith}
use Rattle.space_saving.specs.{TableValue, interval_from}
use Rattle.rank_table.specs.Marks.{without_mark}
use Rattle.rank_table.specs.SlotOrder.{ordered_entries}
use Rattle.rank_table.proofs.SlotChangeLemmas.{entry_found_in_slot_change, missing_entry_in_slot_change}
use Rattle.rank_table.proofs.SlotKeyLemmas.{missing_key_has_no_slot, slot_key_place_is_within, slot_key_at_its_place}
use Rattle.rank_table.proofs.RankTableLemmas.{rank_table_error_below_count, rank_table_high_with_room}
use Rattle.rank_table.proofs.RankTableLemmas.{rank_table_high_when_full}
use Rattle.rank_table.proofs.scanning.interval_of.Goals as goal

pub overflow_sub-result : goal.overflow_sub-result
overflow_sub-result c =
    let slots = c.args.slots.now in
    omega (
      arith,
      rank_table_error_below_count c.args.capacity c.in-Ok.place slots without_mark c.requires.entries
          (slot_key_place_is_within c.args.key c.in-Ok.place slots c.in-Ok.ensures.found),
    )

pub returns-in-Ok-clause-low : goal.returns-in-Ok-clause-low
returns-in-Ok-clause-low c =
    let slots = c.args.slots.now in
    let within = slot_key_place_is_within c.args.key c.in-Ok.place slots c.in-Ok.ensures.found in
    let has = slot_key_at_its_place c.args.key c.in-Ok.place slots without_mark c.in-Ok.ensures.found in
    let table : TableValue = record { capacity = c.args.capacity; entries = ordered_entries slots } in
    sym (ap (λ o. (interval_from o table).low) (entry_found_in_slot_change c.args.key (2 ^ 64) c.in-Ok.place slots without_mark (omega arith)
    c.requires.slots within has))

pub returns-in-Ok-clause-high : goal.returns-in-Ok-clause-high
returns-in-Ok-clause-high c =
    let slots = c.args.slots.now in
    let within = slot_key_place_is_within c.args.key c.in-Ok.place slots c.in-Ok.ensures.found in
    let has = slot_key_at_its_place c.args.key c.in-Ok.place slots without_mark c.in-Ok.ensures.found in
    let table : TableValue = record { capacity = c.args.capacity; entries = ordered_entries slots } in
    sym (ap (λ o. (interval_from o table).high) (entry_found_in_slot_change c.args.key (2 ^ 64) c.in-Ok.place slots without_mark (omega arith)
    c.requires.slots within has))

pub returns-in-Err-clause-low : goal.returns-in-Err-clause-low
returns-in-Err-clause-low c =
    let slots = c.args.slots.now in
    let table : TableValue = record { capacity = c.args.capacity; entries = ordered_entries slots } in
    sym (ap (λ o. (interval_from o table).low) (missing_entry_in_slot_change c.args.key slots
    (missing_key_has_no_slot c.args.key slots c.in-Err.ensures.missing)))

pub returns-in-Err-clause-high : goal.returns-in-Err-clause-high
returns-in-Err-clause-high c =
    let slots = c.args.slots.now in
    rank_table_high_with_room c.args.capacity c.args.key slots (missing_entry_in_slot_change c.args.key slots
    (missing_key_has_no_slot c.args.key slots c.in-Err.ensures.missing)) (omega arith)

pub returns-in-Err-2-clause-low : goal.returns-in-Err-2-clause-low
returns-in-Err-2-clause-low c =
    let slots = c.args.slots.now in
    let table : TableValue = record { capacity = c.args.capacity; entries = ordered_entries slots } in
    sym (ap (λ o. (interval_from o table).low) (missing_entry_in_slot_change c.args.key slots
    (missing_key_has_no_slot c.args.key slots c.in-Err-2.ensures.missing)))

pub returns-in-Err-2-clause-high : goal.returns-in-Err-2-clause-high
returns-in-Err-2-clause-high c =
    let slots = c.args.slots.now in
    rank_table_high_when_full c.args.capacity c.args.key c.least_of.result slots without_mark (missing_entry_in_slot_change c.args.key slots
    (missing_key_has_no_slot c.args.key slots c.in-Err-2.ensures.missing))
    (omega arith) c.requires.slots c.least_of.ensures.least
