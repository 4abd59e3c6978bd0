use Rattle.std.proofs.Common.{◌≡◌, map, take, fold}
use Rattle.space_saving.specs.declared.entry.Entry.{Entry}
use Rattle.cut_merge.specs.Merged.{keys_seen}
use Rattle.cut_merge.specs.HighBounds.{NoteEntries}
use Rattle.cut_merge.specs.SeenHomes.{SeeEntries}
use Rattle.cut_merge.proofs.node_merge.note_keys.Given as goal

-- the keys of the entries so far, which are seen and counted
abbrev pub invariant-loop-place : goal.invariant-loop-place
invariant-loop-place l = record {
  keys : l.keys.items
      ≡ fold keys_seen l.initial.keys.items (map (λ (entry : Entry). entry.key) (take l.place l.table.entries));
  bounds : NoteEntries l.table l.initial.bounds l.bounds l.place;
  seen : SeeEntries l.table l.initial.seen l.seen l.place;
}
