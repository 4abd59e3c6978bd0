use Rattle.std.proofs.Common.{◌≡◌, ℕ, ◌+◌, Option, IfSome, subst, sym, ap, ◌∙◌, arith}
use Rattle.prefix_lattice.specs.{node_count, node_at, NodeValue}
use Rattle.shard_state.specs.{TableShape}
use Rattle.cut_merge.specs.Merged.{RepresentsCut, NodeRepresents}
use Rattle.cut_merge.specs.CutTables.{tables_at}
use Rattle.cut_merge.proofs.CutMergeLemmas.{CutMergesNodes, cut_merge_stands_for_cut, cut_merges_more_nodes}
use Rattle.cut_merge.proofs.merged.Merged.of.Goals as goal

pub loop-place-preserved : goal.loop-place-preserved
loop-place-preserved c =
    let cut = c.args.cut.now in
    let place = c.loop-place.place in
    let nodes = c.loop-place.nodes.items in
    let merge = c.in_ok-merge_node.field-0 in
    let found : c.unwrap-node.result ≡ node_at c.grain-grain.result place =
    subst (λ (o : Option NodeValue). IfSome o (λ node. node ≡ node_at c.grain-grain.result place)) c.unwrap-node.ensures
    c.from_index.ensures.some in
    let here : c.unwrap-node.result ≡ node_at cut.shape.grain place =
    found ∙ ap (λ grain. node_at grain place) c.grain-grain.ensures.grain in
    let stands : NodeRepresents merge (tables_at (node_at cut.shape.grain place) cut) =
    subst (λ (node : NodeValue). NodeRepresents merge (tables_at node cut)) here c.in_ok-merge_node.ensures.stands in
    subst (λ items. CutMergesNodes cut items (place + 1)) (sym c.in_ok-push.ensures.items)
    (cut_merges_more_nodes cut nodes place merge c.loop-place.invariant stands c.in_ok-merge_node.ensures.within)

pub returns : goal.returns
returns c =
    let cut = c.args.cut.now in
    let nodes = c.loop-place.nodes.items in
    let nodes_of : node_count c.grain-grain.result ≡ node_count cut.shape.grain = ap node_count c.grain-grain.ensures.grain in
    let end : c.loop-place.place ≡ node_count cut.shape.grain = omega (arith, nodes_of) in
    let stands = cut_merge_stands_for_cut cut nodes (subst (CutMergesNodes cut nodes) end c.loop-place.invariant) in
    let total = subst (λ (n : ℕ). RepresentsCut (record { shape = cut.shape; total = n; nodes = nodes }) cut)
    (sym c.total_of_shards.ensures) stands in
    let made : TableShape = record { grain = c.grain-grain.result; capacity = c.capacity.result } in
    let shape : made ≡ cut.shape = λ i. record { grain = c.grain-grain.ensures.grain i; capacity = c.capacity.ensures.capacity i } in
    subst (λ (s : TableShape). RepresentsCut (record { shape = s; total = c.total_of_shards.result; nodes = nodes }) cut)
    (sym shape) total
