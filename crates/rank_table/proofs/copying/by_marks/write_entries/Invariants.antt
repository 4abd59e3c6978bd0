use Rattle.std.proofs.Common.{◌≡◌, ◌++◌, map, take, drop}
use Rattle.rank_table.specs.Marks.{slot_of_mark}
use Rattle.rank_table.proofs.copying.by_marks.write_entries.Given as goal

-- the entries so far, and the remaining marks
abbrev pub invariant-loop-place : goal.invariant-loop-place
invariant-loop-place l = l.marks ≡ map (λ mark. (slot_of_mark l.slots mark).entry) (take l.place l.initial.marks) ++ drop l.place l.initial.marks
