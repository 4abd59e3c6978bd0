use Rattle.std.proofs.Common.{◌≡◌, ◌≢◌, ◌-◌, length, sym, ap, ◌∙◌, subst, arith}
use Rattle.std.specs.Prelude.{All, Some, slice_get}
use Rattle.space_saving.specs.declared.entry.Entry.{Entry}
use Rattle.space_saving.specs.{TableValue, interval_from}
use Rattle.stream_summary.specs.Ring.{IsIn}
use Rattle.stream_summary.specs.Buckets.{entry_at, keys_of}
use Rattle.stream_summary.specs.Arena.{arena_entries}
use Rattle.stream_summary.proofs.ArenaLemmas.{arena_entry_is_used}
use Rattle.stream_summary.proofs.StepOfTableLemmas.{table_key_is_missing, place_of_key}
use Rattle.stream_summary.proofs.ReadIndexLemmas.{read_entries_as_slots, read_entry_of_key}
use Rattle.stream_summary.proofs.ReadIndexLemmas.{read_missing_high_when_full, read_missing_high_with_room}
use Rattle.stream_summary.proofs.ReadIndexLemmas.{read_missing_low}
use Rattle.stream_summary.proofs.reading.interval_of.Goals as goal

pub entry-entry-requires-clause-bucket : goal.entry-entry-requires-clause-bucket
entry-entry-requires-clause-bucket c =
    let arena = c.args.arena.now in
    let found = place_of_key c.args.key c.in-Ok.place arena.slots.items
    (subst (λ l. slice_get (keys_of l) c.in-Ok.place ≡ Some c.args.key) c.deref.ensures.value c.in-Ok.ensures.found) in
    let is_in : IsIn c.from_index.result.0 arena.order.order = subst (λ n. IsIn n arena.order.order) (sym c.from_index.ensures)
    (c.requires.together.whole c.in-Ok.place found.0) in
    (arena_entry_is_used arena c.from_index.result.0 c.requires.together.holds is_in).within

pub overflow_sub-result : goal.overflow_sub-result
overflow_sub-result c =
    let arena = c.args.arena.now in
    let found = place_of_key c.args.key c.in-Ok.place arena.slots.items
    (subst (λ l. slice_get (keys_of l) c.in-Ok.place ≡ Some c.args.key) c.deref.ensures.value c.in-Ok.ensures.found) in
    let told = read_entry_of_key arena c.args.key c.in-Ok.place c.requires.table (c.requires.together.whole c.in-Ok.place found.0) found.1 in
    let is = c.entry-entry.ensures ∙ ap (entry_at arena.slots.items arena.buckets.items) c.from_index.ensures in
    omega (arith, told.1, ap (λ (e : Entry). e.error) is, ap (λ (e : Entry). e.count) is)

pub returns-in-Ok-clause-low : goal.returns-in-Ok-clause-low
returns-in-Ok-clause-low c =
    let arena = c.args.arena.now in
    let found = place_of_key c.args.key c.in-Ok.place arena.slots.items
    (subst (λ l. slice_get (keys_of l) c.in-Ok.place ≡ Some c.args.key) c.deref.ensures.value c.in-Ok.ensures.found) in
    let told = read_entry_of_key arena c.args.key c.in-Ok.place c.requires.table (c.requires.together.whole c.in-Ok.place found.0) found.1 in
    let table : TableValue = record { capacity = length arena.buckets.items; entries = arena_entries arena } in
    ap (λ (e : Entry). e.count - e.error) (c.entry-entry.ensures ∙ ap (entry_at arena.slots.items arena.buckets.items) c.from_index.ensures)
    ∙ sym (ap (λ o. (interval_from o table).low) told.0)

pub returns-in-Ok-clause-high : goal.returns-in-Ok-clause-high
returns-in-Ok-clause-high c =
    let arena = c.args.arena.now in
    let found = place_of_key c.args.key c.in-Ok.place arena.slots.items
    (subst (λ l. slice_get (keys_of l) c.in-Ok.place ≡ Some c.args.key) c.deref.ensures.value c.in-Ok.ensures.found) in
    let told = read_entry_of_key arena c.args.key c.in-Ok.place c.requires.table (c.requires.together.whole c.in-Ok.place found.0) found.1 in
    let table : TableValue = record { capacity = length arena.buckets.items; entries = arena_entries arena } in
    ap (λ (e : Entry). e.count) (c.entry-entry.ensures ∙ ap (entry_at arena.slots.items arena.buckets.items) c.from_index.ensures)
    ∙ sym (ap (λ o. (interval_from o table).high) told.0)

pub returns-in-Err-clause-low : goal.returns-in-Err-clause-low
returns-in-Err-clause-low c =
    let arena = c.args.arena.now in
    read_missing_low (length arena.buckets.items) c.args.key (arena_entries arena) (table_key_is_missing arena c.args.key c.requires.together.holds
    (subst (λ l. All (λ other. other ≢ c.args.key) (keys_of l)) c.deref.ensures.value c.in-Err.ensures.missing))

pub returns-in-Err-clause-high : goal.returns-in-Err-clause-high
returns-in-Err-clause-high c =
    let arena = c.args.arena.now in
    read_missing_high_with_room (length arena.buckets.items) c.args.key (arena_entries arena) (table_key_is_missing arena c.args.key c.requires.together.holds
    (subst (λ l. All (λ other. other ≢ c.args.key) (keys_of l)) c.deref.ensures.value c.in-Err.ensures.missing))
    (omega (arith, read_entries_as_slots c.args.index.now arena c.requires.together))

pub returns-in-Err-2-clause-low : goal.returns-in-Err-2-clause-low
returns-in-Err-2-clause-low c =
    let arena = c.args.arena.now in
    read_missing_low (length arena.buckets.items) c.args.key (arena_entries arena) (table_key_is_missing arena c.args.key c.requires.together.holds
    (subst (λ l. All (λ other. other ≢ c.args.key) (keys_of l)) c.deref.ensures.value c.in-Err-2.ensures.missing))

pub returns-in-Err-2-clause-high : goal.returns-in-Err-2-clause-high
returns-in-Err-2-clause-high c =
    let arena = c.args.arena.now in
    c.least_count.ensures
    ∙ read_missing_high_when_full (length arena.buckets.items) c.args.key (arena_entries arena) (table_key_is_missing
    arena c.args.key c.requires.together.holds
    (subst (λ l. All (λ other. other ≢ c.args.key) (keys_of l)) c.deref.ensures.value c.in-Err-2.ensures.missing))
    (omega (arith, read_entries_as_slots c.args.index.now arena c.requires.together))
