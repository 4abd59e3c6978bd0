use Rattle.cut_merge.proofs.CutTableLemmas.{cut_tables_bounded_by_law}
use Rattle.cut_merge.proofs.laws.tables_are_bounded.Goals as goal

pub returns : goal.returns
returns c = cut_tables_bounded_by_law (record {
  ordered = c.intervals_are_narrow.ensures.ordered;
  within_total = c.intervals_are_narrow.ensures.within_total;
  above_missing = c.intervals_are_narrow.ensures.above_missing;
})
