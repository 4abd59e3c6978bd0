use Rattle.std.proofs.Common.{sym, ap, ◌∙◌, subst}
use Rattle.space_saving.specs.{TableValue, AreTableEntries}
use Rattle.rank_table.specs.SlotOrder.{ordered_entries}
use Rattle.rank_table.specs.Slot.{Slots}
use Rattle.rank_table.specs.RankTable.{AreParts, IsRankTable}
use Rattle.rank_table.proofs.NumberedEntryLemmas.{ordered_entries-numbered}
use Rattle.rank_table.proofs.RankTableLemmas.{IsRankTable-loaded}
use Rattle.rank_table.proofs.rank_table.RankTableSummary.restore.Goals as goal

pub invariant_of-result : goal.invariant_of-result
invariant_of-result c =
    let entries = c.args.flat.now.entries in
    let capacity = c.capacity-capacity.result in
    let are = subst (λ n. AreTableEntries n entries) (sym c.capacity-capacity.ensures.capacity) c.total-total.ensures.kept in
    subst (λ n. IsRankTable capacity n c.total-total.result c.load.new.index c.load.new.ranked) (sym c.len.ensures.length)
    (IsRankTable-loaded capacity c.total-total.result entries c.load.new.index c.load.new.ranked c.capacity-capacity.ensures.least
    c.capacity-capacity.ensures.most are c.total-total.ensures.total
    (subst (λ n. AreParts n c.load.new.index c.load.new.ranked) (sym c.capacity-capacity.ensures.capacity) c.load.ensures.together)
    (ap (λ (r : Slots). r.slots) c.load.ensures.ranked))

pub returns : goal.returns
returns c =
    let entries = c.args.flat.now.entries in
    let same = ap (λ (r : Slots). ordered_entries r.slots) c.load.ensures.ranked
    ∙ ordered_entries-numbered entries c.total-total.ensures.kept.is_table.ascending in
    ap (λ n. let t : TableValue = record { capacity = n; entries = ordered_entries c.load.new.ranked.slots } in t) c.capacity-capacity.ensures.capacity
    ∙ ap (λ l. let t : TableValue = record { capacity = c.args.flat.now.capacity; entries = l } in t) same
