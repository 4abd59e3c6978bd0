use Rattle.std.proofs.Common.{List, subst}
use Rattle.std.specs.List.Sorted.{IsPermutation}
use Rattle.cut_merge.specs.declared.key_interval.KeyInterval.{KeyInterval}
use Rattle.cut_merge.proofs.RunLemmas.{sorted_entries_are_run, sorted_run_entry}
use Rattle.cut_merge.proofs.run.Run.of.Goals as goal

pub invariant_of-result : goal.invariant_of-result
invariant_of-result c =
    sorted_entries_are_run c.args.table.now.entries c.sort_by_key.new.intervals.items c.requires
    (subst (λ (made : List KeyInterval). IsPermutation made c.sort_by_key.new.intervals.items)
    c.in_ok-push_intervals.ensures c.sort_by_key.ensures.permuted) c.sort_by_key.ensures.rising

pub returns : goal.returns
returns c = record {
  entries = λ key.
      sorted_run_entry c.args.table.now.entries c.sort_by_key.new.intervals.items key c.requires
      (subst (λ (made : List KeyInterval). IsPermutation made c.sort_by_key.new.intervals.items)
      c.in_ok-push_intervals.ensures c.sort_by_key.ensures.permuted);
  missing = c.missing_in.ensures;
}
