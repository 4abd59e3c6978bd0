use Rattle.std.proofs.Common.{◌≡◌, IfSome, length, sym, ap, subst, ◌∙◌, rules, arith}
use Rattle.std.specs.Ordering.{is_lt}
use Rattle.std.proofs.lemmas.List.Sorted.{ranks_by, answers_always}
use Rattle.prefix_lattice.specs.{NodeValue, IsNode, node_index, node_at, node_count, report_order}
use Rattle.cut_merge.specs.{candidates_at}
use Rattle.hhh_report.specs.declared.line.Line.{Line}
use Rattle.hhh_output.proofs.LevelSearchLemmas.{IsLevelSearch, LevelSearchIsOrdered, level_search_skips_node}
use Rattle.hhh_output.proofs.LevelSearchLemmas.{level_search_takes_node, level_search_is_sorted}
use Rattle.hhh_output.proofs.LevelSearchLemmas.{level_search_was_elsewhere}
use Rattle.hhh_output.proofs.selecting.select_level.Goals as goal

pub loop-place-preserved-then-level : goal.loop-place-preserved-then-level
loop-place-preserved-then-level c =
    let node : NodeValue = c.unwrap-node.result in
    let place = c.loop-place.place in
    let at = subst (λ found. IfSome found (λ n. n ≡ node_at c.grain-grain.result place)) c.unwrap-node.ensures
    c.from_index.ensures.some in
    level_search_skips_node c.args.merged.now c.args.threshold c.args.reported.now.lines c.args.level
    c.loop-place.found.items place
    node c.loop-place.invariant
    (at ∙ ap (λ grain. node_at grain place) c.grain-grain.ensures)
    (subst (λ found. IfSome found (λ n. node_index n ≡ place)) c.unwrap-node.ensures c.from_index.ensures.back)
    (λ same. c.if-level.true (c.level.ensures.value ∙ same))

pub select_at-requires-clause-apart : goal.select_at-requires-clause-apart
select_at-requires-clause-apart c =
    let node : NodeValue = c.unwrap-node.result in
    let place = c.loop-place.place in
    let at = subst (λ found. IfSome found (λ n. n ≡ node_at c.grain-grain.result place)) c.unwrap-node.ensures
    c.from_index.ensures.some in
    level_search_was_elsewhere c.args.merged.now c.args.threshold c.args.reported.now.lines c.args.level
    c.loop-place.found.items place node c.loop-place.invariant (at
    ∙ ap (λ grain. node_at grain place) c.grain-grain.ensures)
    (subst (λ found. IfSome found (λ n. node_index n ≡ place)) c.unwrap-node.ensures c.from_index.ensures.back)

pub loop-place-preserved : goal.loop-place-preserved
loop-place-preserved c =
    let node : NodeValue = c.unwrap-node.result in
    let place = c.loop-place.place in
    let at = subst (λ found. IfSome found (λ n. n ≡ node_at c.grain-grain.result place)) c.unwrap-node.ensures
    c.from_index.ensures.some in
    let is_node : IsNode c.args.merged.now.shape.grain node =
    subst (λ grain. IsNode grain node) c.grain-grain.ensures
    (subst (λ found. IfSome found (IsNode c.grain-grain.result)) c.unwrap-node.ensures c.from_index.ensures.is_node) in
    level_search_takes_node c.args.merged.now c.args.threshold c.args.reported.now.lines c.args.level
    c.loop-place.found.items place node
    c.loop-place.invariant
    (at ∙ ap (λ grain. node_at grain place) c.grain-grain.ensures)
    (subst (λ found. IfSome found (λ n. node_index n ≡ place)) c.unwrap-node.ensures c.from_index.ensures.back)
    (sym c.level.ensures.value ∙ c.if-level.false) c.select_at.new.found.items
    (length (candidates_at c.args.merged.now node)) (c.requires.candidates.few node is_node)
    c.in_ok-select_at.ensures.members c.in_ok-select_at.ensures.distinct c.in_ok-select_at.ensures.few

pub returns : goal.returns
returns c =
    let order : LevelSearchIsOrdered = record {
      total = c.report_order_is_total.ensures.total;
      apart = c.report_order_is_total.ensures.apart;
      reflexive = c.prefixes_are_ordered.ensures.reflexive;
      antisymmetric = c.prefixes_are_ordered.ensures.antisymmetric;
    } in
    let nodes = ap node_count c.grain-grain.ensures in
    let end : c.loop-place.place ≡ node_count c.args.merged.now.shape.grain = omega (arith, nodes) in
    level_search_is_sorted c.args.merged.now c.args.threshold c.args.reported.now.lines c.args.level
    c.loop-place.found.items
    c.sort_by.new.self.items order
    (subst
    (IsLevelSearch c.args.merged.now c.args.threshold c.args.reported.now.lines c.args.level c.loop-place.found.items)
    end c.loop-place.invariant)
    c.sort_by.ensures.permutation
    (c.in_ok-sort_by.ensures.sorted (λ line other. is_lt (report_order line.prefix other.prefix))
    (ranks_by order.total (λ (line : Line). line.prefix))
    (answers_always _ _ _ (λ f a r after called. search rules)))
