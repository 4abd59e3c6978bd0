use Rattle.std.proofs.Common.{◌≡◌, ◌≢◌, true, None, Some, Contains, refl, sym, ap, ◌∙◌}
use Rattle.std.proofs.Common.{subst}
use Rattle.std.proofs.lemmas.Bool.{and_from, false≢true}
use Rattle.prefix_lattice.specs.{NodeValue, node_of_prefix, strictly_under, upper_at, finest_grain}
use Rattle.conditioned_bounds.proofs.MemberLemmas.{member_node_is_finest}
use Rattle.conditioned_bounds.proofs.UpperLemmas.{same_upper_node, other_upper_node}
use Rattle.conditioned_bounds.proofs.CodeLemmas.{CodeOrderHolds, code_above-by_node}
use Rattle.conditioned_bounds.proofs.SearchLemmas.{search_explains, search_explained, search-one_more_node}
use Rattle.conditioned_bounds.proofs.SearchLemmas.{search_ends_with_none, search_finds_one}
use Rattle.conditioned_bounds.proofs.SearchLemmas.{search_own_node-explains_none, search_no_upper-explains_none}
use Rattle.conditioned_bounds.proofs.SearchLemmas.{search_other-explains_none}
use Rattle.conditioned_bounds.proofs.line_index.is_under_another.Goals as goal

pub loop-node-preserved-then-eq : goal.loop-node-preserved-then-eq
loop-node-preserved-then-eq c =
    let finest : c.node-item.result.grain ≡ finest_grain =
    member_node_is_finest c.nodes-node-items.result.now c.loop-node.node-index c.node-item.result
    c.nodes-node-items.ensures.finest
    c.loop-node-test.true c.node-item.is in
    let order : CodeOrderHolds = record {
      reflexive = c.prefixes_are_ordered.ensures.reflexive;
      antisymmetric = c.prefixes_are_ordered.ensures.antisymmetric;
      level = c.prefixes_are_ordered.ensures.level;
      only = c.uppers_are_above.ensures.only;
    } in
    search-one_more_node c.args.lines.now (search_explains c.args.line.now c.args.prefix.now) c.nodes-node-items.result.now
    c.loop-node.node-index c.node-item.result c.loop-node.invariant c.loop-node-test.true c.node-item.is
    (λ member there at.
    search_own_node-explains_none order c.args.line.now c.args.prefix.now member
    (at ∙ same_upper_node c.node-item.result c.member_node-own.result (finest
    ∙ sym (ap (λ (n : NodeValue). n.grain) c.member_node-own.ensures)) c.if-eq.ensures
    ∙ c.member_node-own.ensures))

pub loop-node-preserved-in_default : goal.loop-node-preserved-in_default
loop-node-preserved-in_default c =
    let order : CodeOrderHolds = record {
      reflexive = c.prefixes_are_ordered.ensures.reflexive;
      antisymmetric = c.prefixes_are_ordered.ensures.antisymmetric;
      level = c.prefixes_are_ordered.ensures.level;
      only = c.uppers_are_above.ensures.only;
    } in
    let none : upper_at c.args.line.now c.node-item.result ≡ None = sym c.upper.ensures.value ∙ c.in_default.is in
    search-one_more_node c.args.lines.now (search_explains c.args.line.now c.args.prefix.now) c.nodes-node-items.result.now
    c.loop-node.node-index c.node-item.result c.loop-node.invariant c.loop-node-test.true c.node-item.is
    (λ member there at.
    search_no_upper-explains_none order c.args.line.now c.args.prefix.now member (ap (upper_at c.args.line.now) at ∙ none))

pub loop-node-preserved-then-not-strictly_under : goal.loop-node-preserved-then-not-strictly_under
loop-node-preserved-then-not-strictly_under c =
    let order : CodeOrderHolds = record {
      reflexive = c.prefixes_are_ordered.ensures.reflexive;
      antisymmetric = c.prefixes_are_ordered.ensures.antisymmetric;
      level = c.prefixes_are_ordered.ensures.level;
      only = c.uppers_are_above.ensures.only;
    } in
    let found : upper_at c.args.line.now c.node-item.result ≡ Some c.in-Some.other =
    sym c.upper.ensures.value ∙ c.in-Some.is in
    search-one_more_node c.args.lines.now (search_explains c.args.line.now c.args.prefix.now) c.nodes-node-items.result.now
    c.loop-node.node-index c.node-item.result c.loop-node.invariant c.loop-node-test.true c.node-item.is
    (λ member there at.
    search_other-explains_none order c.args.line.now c.args.prefix.now member c.in-Some.other
    (ap (upper_at c.args.line.now) at ∙ found)
    (λ same. sym c.strictly_under.ensures.value ∙ c.if-not-strictly_under.true))

pub returns-then-has : goal.returns-then-has
returns-then-has c =
    let finest : c.node-item.result.grain ≡ finest_grain =
    member_node_is_finest c.nodes-node-items.result.now c.loop-node.node-index c.node-item.result
    c.nodes-node-items.ensures.finest
    c.loop-node-test.true c.node-item.is in
    let order : CodeOrderHolds = record {
      reflexive = c.prefixes_are_ordered.ensures.reflexive;
      antisymmetric = c.prefixes_are_ordered.ensures.antisymmetric;
      level = c.prefixes_are_ordered.ensures.level;
      only = c.uppers_are_above.ensures.only;
    } in
    let line = c.args.line.now in
    let prefix = c.args.prefix.now in
    let other = c.in-Some.other in
    let found : upper_at line c.node-item.result ≡ Some other = sym c.upper.ensures.value ∙ c.in-Some.is in
    let is = c.uppers_are_above.ensures.above line other c.node-item.result c.upper.ensures.prefix
    c.upper.ensures.node found in
    let apart : node_of_prefix finest_grain line ≢ node_of_prefix finest_grain other =
    λ same. other_upper_node c.node-item.result c.member_node-own.result c.if-eq.ensures
    (sym is.of_node ∙ ap (λ g. node_of_prefix g other) finest ∙ sym same ∙ sym c.member_node-own.ensures) in
    let passes : search_explains line prefix other ≡ true =
    and_from (strictly_under other prefix) (strictly_under line other)
    (sym c.strictly_under.ensures.value ∙ c.if-not-strictly_under.false)
    (code_above-by_node order finest_grain line other is.is_under apart) in
    sym (sym (search_explained c.args.lines.now line prefix)
    ∙ search_finds_one c.args.lines.now (search_explains line prefix) other (c.if-has.ensures.0 refl) passes)

pub loop-node-preserved : goal.loop-node-preserved
loop-node-preserved c =
    let order : CodeOrderHolds = record {
      reflexive = c.prefixes_are_ordered.ensures.reflexive;
      antisymmetric = c.prefixes_are_ordered.ensures.antisymmetric;
      level = c.prefixes_are_ordered.ensures.level;
      only = c.uppers_are_above.ensures.only;
    } in
    let found : upper_at c.args.line.now c.node-item.result ≡ Some c.in-Some.other =
    sym c.upper.ensures.value ∙ c.in-Some.is in
    search-one_more_node c.args.lines.now (search_explains c.args.line.now c.args.prefix.now) c.nodes-node-items.result.now
    c.loop-node.node-index c.node-item.result c.loop-node.invariant c.loop-node-test.true c.node-item.is
    (λ member there at.
    search_other-explains_none order c.args.line.now c.args.prefix.now member c.in-Some.other
    (ap (upper_at c.args.line.now) at ∙ found)
    (λ same. absurd (false≢true (c.if-has.ensures.1 (subst (Contains c.args.lines.now) (sym same) there)))))

pub returns : goal.returns
returns c =
    sym (sym (search_explained c.args.lines.now c.args.line.now c.args.prefix.now)
    ∙ search_ends_with_none c.args.lines.now (search_explains c.args.line.now c.args.prefix.now) c.nodes-node-items.result.now
    c.loop-node.node-index c.nodes-node-items.ensures.have c.loop-node.invariant c.loop-node-test.false)
