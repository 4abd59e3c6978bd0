use Rattle.std.proofs.Common.{List, subst, ◌∙◌}
use Rattle.std.specs.List.Sorted.{IsPermutation}
use Rattle.space_saving.specs.declared.entry.Entry.{Entry}
use Rattle.rank_table.proofs.MarkLemmas.{moved_marks_stay_in_range, sorted_marks_give_table}
use Rattle.rank_table.proofs.copying.by_marks.write_by_marks.Goals as goal

pub write_entries-requires : goal.write_entries-requires
write_entries-requires c =
    moved_marks_stay_in_range c.args.slots.now c.sort_marks.new.marks (subst
    (λ (marks : List Entry). IsPermutation marks c.sort_marks.new.marks) c.write_marks.ensures c.sort_marks.ensures.permuted)

pub returns : goal.returns
returns c =
    c.write_entries.ensures
    ∙ sorted_marks_give_table c.args.slots.now c.sort_marks.new.marks c.requires.slots
    (subst (λ (marks : List Entry). IsPermutation marks c.sort_marks.new.marks) c.write_marks.ensures c.sort_marks.ensures.permuted)
    c.sort_marks.ensures.rising
