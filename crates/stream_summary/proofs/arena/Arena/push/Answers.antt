use Rattle.std.proofs.Common.{◌≡◌, ◌++◌, ◌∷◌, [], refl}
use Rattle.stream_summary.specs.declared.slot.Slot.{Slot}
use Rattle.stream_summary.specs.declared.arena.Arena.{Arena}
use Rattle.stream_summary.proofs.EmptyArenaLemmas.{arena_pushed}
use Rattle.stream_summary.proofs.arena.Arena.push.Goals as goal

pub returns-clause-arena : goal.returns-clause-arena
returns-clause-arena c =
    let old = c.args.self.now in
    let slot : Slot = record { key = c.args.entry.key; error = c.args.entry.error; bucket = c.from_index.result } in
    let new : Arena = record old { slots = c.push.new.self } in
    let pushed : c.push.new.self.items ≡ old.slots.items ++ slot ∷ [] = rw c.unwrap.ensures at c.push.ensures.items in
    (arena_pushed old new slot c.requires.arena c.requires.room pushed refl refl refl).0

pub returns-clause-entries : goal.returns-clause-entries
returns-clause-entries c =
    let old = c.args.self.now in
    let slot : Slot = record { key = c.args.entry.key; error = c.args.entry.error; bucket = c.from_index.result } in
    let new : Arena = record old { slots = c.push.new.self } in
    let pushed : c.push.new.self.items ≡ old.slots.items ++ slot ∷ [] = rw c.unwrap.ensures at c.push.ensures.items in
    (arena_pushed old new slot c.requires.arena c.requires.room pushed refl refl refl).1
