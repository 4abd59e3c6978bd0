use Rattle.std.proofs.Common.{◌≤◌, ◌-◌, ◌*◌, arith, subst}
use Rattle.space_saving.specs.Summary.{TableValue, table_total}
use Rattle.space_saving.proofs.IntervalWidthLemmas.{interval_width_by_head}
use Rattle.space_saving.proofs.flat.Flat.interval.Goals as goal

pub returns-in-None-2-clause-narrow : goal.returns-in-None-2-clause-narrow
returns-in-None-2-clause-narrow c =
    subst (λ (t : TableValue). (c.index.result.now.count - 0) * t.capacity ≤ table_total t.entries) c.self.view_is
    (interval_width_by_head c.self.inside.capacity c.self.inside.entries.items c.index.result.now
    c.self.invariant.are_entries.is_table (omega (arith, c.self.invariant.least)) (omega arith) c.index.ensures)
