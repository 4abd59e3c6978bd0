use Rattle.std.proofs.Common.{◌≡◌, ◌+◌, ◌^◌, ◌<◌, ◌≤◌, sym, ap, ◌∙◌, subst, arith}
use Rattle.space_saving.specs.{TableAdd, TableValue, IsTable, after_step, table_total}
use Rattle.stream_summary.specs.Arena.{arena_entries}
use Rattle.stream_summary.proofs.stream_table.StreamTableSummary.add.Goals as goal

pub invariant_of-self : goal.invariant_of-self
invariant_of-self c =
    let old = c.self.invariant in
    let capacity = c.self.inside.capacity in
    let entries = arena_entries c.self.inside.arena in
    let add : TableAdd = record { key = c.args.key; weight = c.from-weight.result } in
    let some : 1 ≤ capacity = omega (arith, old.least) in
    let weighs : 1 ≤ c.from-weight.result = omega (arith, c.from-weight.ensures, c.requires.weighs) in
    let fits : table_total entries + c.from-weight.result < 2 ^ 56 =
    subst (λ (t : TableValue). table_total t.entries + c.from-weight.result < 2 ^ 56) (sym c.self.view_is)
    (omega (arith, c.from-weight.ensures, c.requires.room)) in
    let stepped : arena_entries c.add_weight.new.arena ≡ after_step capacity entries add =
    c.add_weight.ensures.stepped ∙ ap (λ n. after_step n entries add) old.as_many in
    let grew : table_total (arena_entries c.add_weight.new.arena) ≡ table_total entries + c.from-weight.result =
    ap table_total stepped ∙ c.steps_leave_a_table.ensures.total capacity entries add some in
    record {
      least = old.least;
      most = old.most;
      as_many = c.add_weight.ensures.buckets ∙ old.as_many;
      together = c.add_weight.ensures.together;
      adds_up = omega (arith, old.adds_up, grew);
      are_entries = record {
        is_table = subst (IsTable capacity) (sym stepped)
            (c.steps_leave_a_table.ensures.table capacity entries add some weighs old.are_entries.is_table);
        bounded = omega (arith, grew, fits);
      };
    }

pub returns-clause-grew : goal.returns-clause-grew
returns-clause-grew c =
    let capacity = c.self.inside.capacity in
    let entries = arena_entries c.self.inside.arena in
    let add : TableAdd = record { key = c.args.key; weight = c.from-weight.result } in
    let some : 1 ≤ capacity = omega (arith, c.self.invariant.least) in
    let stepped : arena_entries c.add_weight.new.arena ≡ after_step capacity entries add =
    c.add_weight.ensures.stepped ∙ ap (λ n. after_step n entries add) c.self.invariant.as_many in
    let grew : table_total (arena_entries c.add_weight.new.arena) ≡ table_total entries + c.from-weight.result =
    ap table_total stepped ∙ c.steps_leave_a_table.ensures.total capacity entries add some in
    let same : table_total entries ≡ table_total c.args.self.now.entries = ap (λ (t : TableValue). table_total t.entries) c.self.view_is in
    omega (arith, grew, same, c.from-weight.ensures)
