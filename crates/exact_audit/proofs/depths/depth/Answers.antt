use Rattle.std.proofs.Common.{◌≡◌, ◌-◌, false, inr, sym, ap, ◌∙◌, subst, nat_eq, arith, IfSome}
use Rattle.std.specs.List.{list_any}
use Rattle.prefix_lattice.specs.{prefix_at, node_of_prefix}
use Rattle.exact_audit.specs.LineCodes.{line_code}
use Rattle.exact_audit.proofs.DepthLemmas.{depth_past_lengths_is_unreached, depth_next, depth_found, depth_end}
use Rattle.exact_audit.proofs.DepthLemmas.{coded_depth_has_line, depth_node}
use Rattle.exact_audit.proofs.depths.depth.Goals as goal

pub loop-dest-init : goal.loop-dest-init
loop-dest-init c = (
  omega (arith, c.lengths-dest.ensures.value),
  λ prefixes coded depth dest least.
      depth_past_lengths_is_unreached c.args.grain prefixes c.args.rec.now c.args.source dest
      (inr (omega (arith, c.lengths-dest.ensures.value, least))),
)

pub loop-dest-preserved : goal.loop-dest-preserved
loop-dest-preserved c = (
  omega (arith, c.loop-dest.invariant.0),
  λ prefixes coded depth dest least.
      let s = c.args.source in
      let at = c.loop-dest.dest - 1 in
      let node : c.unwrap-node.result ≡ depth_node c.args.grain s at =
      subst (λ o. IfSome o (λ n. n ≡ depth_node c.args.grain s at)) c.unwrap-node.ensures c.new.ensures.some in
      let own : c.of.result ≡ prefix_at (depth_node c.args.grain s at) c.args.rec.now =
      c.of.ensures.value ∙ ap (λ n. prefix_at n c.args.rec.now) node in
      depth_next prefixes c.args.lines.now.codes.keys c.args.rec.now s at c.args.below coded depth (omega arith)
      (subst (λ p. list_any (nat_eq (line_code p)) c.args.lines.now.codes.keys ≡ false) own
      (sym c.has.ensures.value ∙ c.if-has.false))
      (λ d more. c.loop-dest.invariant.1 prefixes coded depth d (omega arith)) dest least,
)

pub returns-then-has-clause-depth : goal.returns-then-has-clause-depth
returns-then-has-clause-depth c = λ prefixes coded depth.
    let s = c.args.source in
    let at = c.loop-dest.dest - 1 in
    let node : c.unwrap-node.result ≡ depth_node c.args.grain s at =
    subst (λ o. IfSome o (λ n. n ≡ depth_node c.args.grain s at)) c.unwrap-node.ensures c.new.ensures.some in
    depth_found prefixes c.args.rec.now s at c.of.result
    (coded_depth_has_line c.keys_are_of_their_node.ensures.apart prefixes c.args.lines.now.codes.keys c.of.result coded
    c.has.ensures.prefix c.has.ensures.small (sym c.has.ensures.value ∙ c.if-has.true))
    c.of.ensures.covers (subst (λ n. node_of_prefix n.grain c.of.result ≡ n) node c.of.ensures.node)
    (λ d more. c.loop-dest.invariant.1 prefixes coded depth d (omega arith))

pub returns-clause-depth : goal.returns-clause-depth
returns-clause-depth c = λ prefixes coded depth.
    depth_end c.args.grain prefixes c.args.rec.now c.args.source c.loop-dest.dest c.args.below depth
    (omega arith) (c.loop-dest.invariant.1 prefixes coded depth)
