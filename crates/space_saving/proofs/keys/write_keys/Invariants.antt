use Rattle.std.proofs.Common.{◌≡◌, map, take}
use Rattle.space_saving.specs.declared.entry.Entry.{Entry}
use Rattle.space_saving.proofs.keys.write_keys.Given as goal

-- the keys of the entries so far are written
abbrev pub invariant-loop-place : goal.invariant-loop-place
invariant-loop-place l = take l.place l.keys ≡ map (λ (e : Entry). e.key) (take l.place l.entries)
