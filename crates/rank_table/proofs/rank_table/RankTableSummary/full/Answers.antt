use Rattle.std.proofs.Common.{◌≡◌, length, sym, ap, ◌∙◌}
use Rattle.std.proofs.lemmas.Bool.{eqb-true, eq-eqb}
use Rattle.space_saving.specs.{TableValue}
use Rattle.rank_table.proofs.RankTableLemmas.{rank_table_length_as_seen}
use Rattle.rank_table.proofs.rank_table.RankTableSummary.full.Goals as goal

pub returns : goal.returns
returns c =
    let as_many : length c.slots.result.now ≡ length c.args.self.now.entries =
    rank_table_length_as_seen c.self.inside.capacity c.slots.result.now c.self.inside.ranked.slots c.args.self.now c.slots.ensures.slots c.self.view_is in
    let capacity : c.self.inside.capacity ≡ c.args.self.now.capacity = ap (λ (t : TableValue). t.capacity) c.self.view_is in (
      λ yes. sym as_many ∙ eqb-true (length c.slots.result.now) c.self.inside.capacity yes ∙ capacity,
      λ full. eq-eqb (length c.slots.result.now) c.self.inside.capacity (as_many ∙ full ∙ sym capacity),
    )
