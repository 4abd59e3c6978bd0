use Rattle.std.proofs.Common.{◌≡◌, ◌<◌, length, ap, sym, subst, ◌∙◌, arith}
use Rattle.prefix_lattice.specs.{node_count}
use Rattle.cut_merge.specs.Merged.{MergedValue}
use Rattle.cut_merge.proofs.CutMergeLemmas.{cut_merge_place_within_total}
use Rattle.cut_merge.proofs.merged.Merged.merge_of.Goals as goal

pub returns-clause-within : goal.returns-clause-within
returns-clause-within c = λ key.
    let merged : MergedValue = record {
      shape = record { grain = c.self.inside.grain; capacity = c.self.inside.capacity };
      total = c.self.inside.total;
      nodes = c.self.inside.nodes.items;
    } in
    let grain : c.args.node.grain ≡ c.self.inside.grain =
    c.requires ∙ ap (λ (m : MergedValue). m.shape.grain) (sym c.self.view_is) in
    let few : c.index.result < node_count c.self.inside.grain =
    subst (λ g. c.index.result < node_count g) grain c.index.ensures.few in
    let within : c.from.result < length merged.nodes = omega (arith, c.self.invariant.as_many, few, c.from.ensures) in
    rw (← c.self.view_is)
    (cut_merge_place_within_total merged c.from.result key c.index-2.result.now c.self.invariant within c.index-2.ensures)
