use Rattle.std.proofs.Common.{◌≡◌, ◌+◌, ◌^◌, ◌<◌, ap, sym, subst, ◌∙◌, arith}
use Rattle.space_saving.specs.Summary.{TableValue, table_total}
use Rattle.space_saving.proofs.TableStepLemmas.{IsKept-table_step, table_total-table_step}
use Rattle.space_saving.proofs.flat.Flat.add.Goals as goal

pub invariant_of-self : goal.invariant_of-self
invariant_of-self c =
    let items = c.self.inside.entries.items in
    let fits : table_total items + c.from-weight.result < 2 ^ 56 =
    subst (λ (t : TableValue). table_total t.entries + c.from-weight.result < 2 ^ 56) (sym c.self.view_is)
    (omega (arith, c.from-weight.ensures, c.requires.room)) in
    IsKept-table_step c.self.inside.capacity _ _ c.self.inside.total items _
    (record { key = c.args.key; weight = c.from-weight.result }) c.self.invariant (omega arith) fits
    c.add_weight.ensures.still_reserved c.add_weight.ensures.stepped

pub returns-clause-grew : goal.returns-clause-grew
returns-clause-grew c =
    let items = c.self.inside.entries.items in
    let grew : table_total c.add_weight.new.entries.items ≡ table_total items + c.from-weight.result =
    ap table_total c.add_weight.ensures.stepped
    ∙ table_total-table_step c.self.inside.capacity items (record { key = c.args.key; weight = c.from-weight.result })
    (omega (arith, c.self.invariant.least)) in
    let same : table_total items ≡ table_total c.args.self.now.entries =
    ap (λ (t : TableValue). table_total t.entries) c.self.view_is in
    omega (arith, c.from-weight.ensures)
