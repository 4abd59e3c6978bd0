use Rattle.std.proofs.Common.{◌≡◌, ℕ, ◌<◌, get_or}
use Rattle.space_saving.specs.declared.entry.Entry.{Entry}
use Rattle.rank_table.specs.Marks.{mark_of, without_mark}
use Rattle.rank_table.proofs.copying.by_marks.write_marks.Given as goal

-- the marks so far
abbrev pub invariant-loop-place : goal.invariant-loop-place
invariant-loop-place l = (place : ℕ) (d : Entry) → place < l.place → get_or l.into place d ≡ mark_of place (get_or l.slots place without_mark)
