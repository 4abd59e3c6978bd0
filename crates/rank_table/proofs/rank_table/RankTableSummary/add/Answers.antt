use Rattle.std.proofs.Common.{◌≡◌, ◌+◌, ◌^◌, ◌<◌, ◌≤◌, refl, sym, ap, ◌∙◌, subst, arith}
use Rattle.space_saving.specs.{TableAdd, TableValue, after_step, table_total}
use Rattle.rank_table.specs.SlotOrder.{ordered_entries}
use Rattle.rank_table.proofs.RankTableLemmas.{IsRankTable-add}
use Rattle.rank_table.proofs.rank_table.RankTableSummary.add.Goals as goal

pub invariant_of-self : goal.invariant_of-self
invariant_of-self c =
    let add : TableAdd = record { key = c.args.key; weight = c.from-weight.result } in
    let some : 1 ≤ c.self.inside.capacity = omega (arith, c.self.invariant.least) in
    let weighs : 1 ≤ c.from-weight.result = omega (arith, c.from-weight.ensures, c.requires.weighs) in
    let fits : table_total (ordered_entries c.self.inside.ranked.slots) + c.from-weight.result < 2 ^ 56 =
    subst (λ (t : TableValue). table_total t.entries + c.from-weight.result < 2 ^ 56) (sym c.self.view_is)
    (omega (arith, c.from-weight.ensures, c.requires.room)) in
    IsRankTable-add c.self.inside.capacity c.self.inside.clock c.time_of_add-now.result c.self.inside.total c.from-weight.result c.self.inside.index
    c.add_weight.new.index
    c.self.inside.ranked c.add_weight.new.ranked add
    c.self.invariant refl weighs fits
    (λ entries table. c.steps_leave_a_table.ensures.table c.self.inside.capacity entries add some weighs table)
    (λ entries. c.steps_leave_a_table.ensures.total c.self.inside.capacity entries add some)
    (c.add_weight.ensures.capacity ∙ c.time_of_add-now.ensures.capacity) c.add_weight.ensures.together c.time_of_add-now.ensures.early
    c.add_weight.ensures.slots
    (c.add_weight.ensures.stepped ∙ ap (λ n. after_step n (ordered_entries c.time_of_add-now.new.self.slots) add)
    (c.time_of_add-now.ensures.capacity ∙ c.self.invariant.together.as_many) ∙ ap (λ l. after_step c.self.inside.capacity l add)
    c.time_of_add-now.ensures.entries)

pub returns-clause-grew : goal.returns-clause-grew
returns-clause-grew c =
    let add : TableAdd = record { key = c.args.key; weight = c.from-weight.result } in
    let some : 1 ≤ c.self.inside.capacity = omega (arith, c.self.invariant.least) in
    let stepped = c.add_weight.ensures.stepped ∙ ap (λ n. after_step n (ordered_entries c.time_of_add-now.new.self.slots) add)
    (c.time_of_add-now.ensures.capacity ∙ c.self.invariant.together.as_many) ∙ ap (λ l. after_step c.self.inside.capacity l add)
    c.time_of_add-now.ensures.entries in
    let grew = ap table_total stepped ∙ c.steps_leave_a_table.ensures.total c.self.inside.capacity (ordered_entries c.self.inside.ranked.slots) add
    some in
    let same : table_total (ordered_entries c.self.inside.ranked.slots) ≡ table_total c.args.self.now.entries = ap
    (λ (t : TableValue). table_total t.entries) c.self.view_is in
    omega (arith, grew, same, c.from-weight.ensures)
