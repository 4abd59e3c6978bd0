use Rattle.std.proofs.Common.{◌≡◌, ◌<◌, ◌≤◌, ⊎_elim, IfSome, sym, ap, subst, ◌∙◌, arith}
use Rattle.std.proofs.lemmas.Bool.{cases_lt}
use Rattle.prefix_lattice.specs.{NodeValue, node_at, node_index, node_of_prefix}
use Rattle.exact_audit.specs.LineCodes.{AreLineCodes}
use Rattle.exact_audit.proofs.ClosestLineLemmas.{line_is_at_own_node, no_line_is_between}
use Rattle.exact_audit.proofs.closest_lines.is_one_between.Goals as goal

pub loop-index-preserved : goal.loop-index-preserved
loop-index-preserved c = λ lines other coded there less.
    let grain = c.args.grain in
    let index = c.loop-index.index in
    let codes = c.args.codes.now.codes.keys in
    ⊎_elim
    (λ (before : node_index (node_of_prefix grain other) < index). c.loop-index.invariant lines other coded there before)
    (λ (not_before : index ≤ node_index (node_of_prefix grain other)).
    let at : node_index (node_of_prefix grain other) ≡ index = omega (arith, not_before, less) in
    let node : node_at grain index ≡ c.unwrap-node.result =
    sym (subst (λ o. IfSome o (λ n. n ≡ node_at grain index)) c.unwrap-node.ensures c.from_index.ensures.some) in
    c.has_between.ensures.no lines other (subst (λ (n : NodeValue). AreLineCodes n.grain lines codes) node coded)
    c.if-has_between.false there
    (subst (λ (n : NodeValue). node_of_prefix n.grain other ≡ n) node
    (line_is_at_own_node lines codes other coded there ∙ ap (node_at grain) at)))
    (cases_lt (node_index (node_of_prefix grain other)) index)

pub returns-then-has_between : goal.returns-then-has_between
returns-then-has_between c = λ lines coded.
    let at = node_at c.args.grain c.loop-index.index in
    let node : at ≡ c.unwrap-node.result =
    sym (subst (λ o. IfSome o (λ n. n ≡ at)) c.unwrap-node.ensures c.from_index.ensures.some) in
    sym (c.has_between.ensures.yes lines
    (subst (λ (n : NodeValue). AreLineCodes n.grain lines c.args.codes.now.codes.keys) node coded) c.if-has_between.true)

pub returns : goal.returns
returns c = λ lines coded.
    sym (no_line_is_between lines c.args.codes.now.codes.keys c.args.upper.now c.args.lower.now c.loop-index.index coded
    (omega (arith, c.loop-index-test.false)) (λ other there less. c.loop-index.invariant lines other coded there less))
