use Rattle.std.proofs.Common.{set, sym, ap, ◌∙◌}
use Rattle.std.proofs.lemmas.List.{get_or-map, set-get_or}
use Rattle.space_saving.specs.declared.entry.Entry.{Entry}
use Rattle.stream_summary.specs.declared.slot.Slot.{Slot}
use Rattle.stream_summary.specs.Buckets.{keys_of, no_slot}
use Rattle.stream_summary.proofs.ArenaLemmas.{arena_entry_is_within}
use Rattle.stream_summary.proofs.steps.grow.Goals as goal

pub entry-entry-requires-clause-within : goal.entry-entry-requires-clause-within
entry-entry-requires-clause-within c = arena_entry_is_within c.args.arena.now c.args.number.0 c.requires.arena c.requires.stands

pub returns-clause-keys : goal.returns-clause-keys
returns-clause-keys c =
    let slots = c.args.arena.now.slots.items in
    let place = c.args.number.0 in
    c.replace.ensures.keys
    ∙ ap (set (keys_of slots) place) (ap (λ (e : Entry). e.key) c.entry-entry.ensures
    ∙ sym (get_or-map (λ (s : Slot). s.key) slots place no_slot 0 (arena_entry_is_within c.args.arena.now place c.requires.arena c.requires.stands)))
    ∙ set-get_or (keys_of slots) place 0
