use Rattle.std.proofs.Common.{◌≡◌, ◌≢◌, None, Some, Contains, refl, sym, ap, ◌∙◌, subst}
use Rattle.std.proofs.lemmas.Bool.{false≢true}
use Rattle.prefix_lattice.specs.{NodeValue, node_of_prefix, upper_at, finest_grain}
use Rattle.conditioned_bounds.proofs.MemberLemmas.{member_node_is_finest}
use Rattle.conditioned_bounds.proofs.UpperLemmas.{same_upper_node, other_upper_node}
use Rattle.conditioned_bounds.proofs.CodeLemmas.{CodeOrderHolds}
use Rattle.conditioned_bounds.proofs.SearchLemmas.{is_search_third, search-one_more_node, search_ends_with_none}
use Rattle.conditioned_bounds.proofs.SearchLemmas.{search_finds_one, search_first-is_no_third}
use Rattle.conditioned_bounds.proofs.SearchLemmas.{search_second-is_no_third, search_no_upper-no_third}
use Rattle.conditioned_bounds.proofs.SearchLemmas.{search_other-is_no_third}
use Rattle.conditioned_bounds.proofs.SearchLemmas.{is_search_third-by_node}
use Rattle.conditioned_bounds.proofs.meet_sums.is_under_third.Goals as goal

pub loop-node-preserved-then-eq : goal.loop-node-preserved-then-eq
loop-node-preserved-then-eq c =
    let finest : c.node-item.result.grain ≡ finest_grain =
    member_node_is_finest c.nodes-node-items.result.now c.loop-node.node-index c.node-item.result
    c.nodes-node-items.ensures.finest
    c.loop-node-test.true c.node-item.is in
    let order : CodeOrderHolds = record {
      reflexive = c.prefixes_are_ordered.ensures.reflexive;
      antisymmetric = c.prefixes_are_ordered.ensures.antisymmetric;
      level = c.prefixes_are_ordered.ensures.level;
      only = c.uppers_are_above.ensures.only;
    } in
    search-one_more_node c.args.members.now (is_search_third c.args.first.now c.args.second.now c.args.meet.now)
    c.nodes-node-items.result.now c.loop-node.node-index c.node-item.result c.loop-node.invariant
    c.loop-node-test.true c.node-item.is
    (λ member there at.
    search_first-is_no_third order c.args.first.now c.args.second.now c.args.meet.now member c.requires.first
    (at ∙ same_upper_node c.node-item.result c.member_node-first.result (finest
    ∙ sym (ap (λ (n : NodeValue). n.grain) c.member_node-first.ensures))
    c.if-eq.ensures ∙ c.member_node-first.ensures))

pub loop-node-preserved-then-eq-2 : goal.loop-node-preserved-then-eq-2
loop-node-preserved-then-eq-2 c =
    let finest : c.node-item.result.grain ≡ finest_grain =
    member_node_is_finest c.nodes-node-items.result.now c.loop-node.node-index c.node-item.result
    c.nodes-node-items.ensures.finest
    c.loop-node-test.true c.node-item.is in
    let order : CodeOrderHolds = record {
      reflexive = c.prefixes_are_ordered.ensures.reflexive;
      antisymmetric = c.prefixes_are_ordered.ensures.antisymmetric;
      level = c.prefixes_are_ordered.ensures.level;
      only = c.uppers_are_above.ensures.only;
    } in
    search-one_more_node c.args.members.now (is_search_third c.args.first.now c.args.second.now c.args.meet.now)
    c.nodes-node-items.result.now c.loop-node.node-index c.node-item.result c.loop-node.invariant
    c.loop-node-test.true c.node-item.is
    (λ member there at.
    search_second-is_no_third order c.args.first.now c.args.second.now c.args.meet.now member c.requires.second
    (at ∙ same_upper_node c.node-item.result c.member_node-second.result (finest
    ∙ sym (ap (λ (n : NodeValue). n.grain) c.member_node-second.ensures))
    c.if-eq-2.ensures ∙ c.member_node-second.ensures))

pub loop-node-preserved-in_default : goal.loop-node-preserved-in_default
loop-node-preserved-in_default c =
    let order : CodeOrderHolds = record {
      reflexive = c.prefixes_are_ordered.ensures.reflexive;
      antisymmetric = c.prefixes_are_ordered.ensures.antisymmetric;
      level = c.prefixes_are_ordered.ensures.level;
      only = c.uppers_are_above.ensures.only;
    } in
    let none : upper_at c.args.meet.now c.node-item.result ≡ None = sym c.upper.ensures.value ∙ c.in_default.is in
    search-one_more_node c.args.members.now (is_search_third c.args.first.now c.args.second.now c.args.meet.now)
    c.nodes-node-items.result.now c.loop-node.node-index c.node-item.result c.loop-node.invariant
    c.loop-node-test.true c.node-item.is
    (λ member there at.
    search_no_upper-no_third order c.args.first.now c.args.second.now c.args.meet.now member
    (ap (upper_at c.args.meet.now) at ∙ none))

pub returns-then-has : goal.returns-then-has
returns-then-has c =
    let finest : c.node-item.result.grain ≡ finest_grain =
    member_node_is_finest c.nodes-node-items.result.now c.loop-node.node-index c.node-item.result
    c.nodes-node-items.ensures.finest
    c.loop-node-test.true c.node-item.is in
    let order : CodeOrderHolds = record {
      reflexive = c.prefixes_are_ordered.ensures.reflexive;
      antisymmetric = c.prefixes_are_ordered.ensures.antisymmetric;
      level = c.prefixes_are_ordered.ensures.level;
      only = c.uppers_are_above.ensures.only;
    } in
    let third = c.in-Some.third in
    let found : upper_at c.args.meet.now c.node-item.result ≡ Some third = sym c.upper.ensures.value ∙ c.in-Some.is in
    let is = c.uppers_are_above.ensures.above c.args.meet.now third c.node-item.result c.upper.ensures.prefix
    c.upper.ensures.node
    found in
    let not_first : node_of_prefix finest_grain third ≢ node_of_prefix finest_grain c.args.first.now =
    λ same. other_upper_node c.node-item.result c.member_node-first.result c.if-eq.ensures
    (sym is.of_node ∙ ap (λ g. node_of_prefix g third) finest ∙ same ∙ sym c.member_node-first.ensures) in
    let not_second : node_of_prefix finest_grain third ≢ node_of_prefix finest_grain c.args.second.now =
    λ same. other_upper_node c.node-item.result c.member_node-second.result c.if-eq-2.ensures
    (sym is.of_node ∙ ap (λ g. node_of_prefix g third) finest ∙ same ∙ sym c.member_node-second.ensures) in
    sym (search_finds_one c.args.members.now (is_search_third c.args.first.now c.args.second.now c.args.meet.now) third
    (c.if-has.ensures.0 refl)
    (is_search_third-by_node order c.args.first.now c.args.second.now c.args.meet.now third is.is_under not_first not_second))

pub loop-node-preserved : goal.loop-node-preserved
loop-node-preserved c =
    let order : CodeOrderHolds = record {
      reflexive = c.prefixes_are_ordered.ensures.reflexive;
      antisymmetric = c.prefixes_are_ordered.ensures.antisymmetric;
      level = c.prefixes_are_ordered.ensures.level;
      only = c.uppers_are_above.ensures.only;
    } in
    let found : upper_at c.args.meet.now c.node-item.result ≡ Some c.in-Some.third =
    sym c.upper.ensures.value ∙ c.in-Some.is in
    search-one_more_node c.args.members.now (is_search_third c.args.first.now c.args.second.now c.args.meet.now)
    c.nodes-node-items.result.now c.loop-node.node-index c.node-item.result c.loop-node.invariant
    c.loop-node-test.true c.node-item.is
    (λ member there at.
    search_other-is_no_third order c.args.first.now c.args.second.now c.args.meet.now member c.in-Some.third
    (ap (upper_at c.args.meet.now) at ∙ found)
    (λ same. false≢true (c.if-has.ensures.1 (subst (Contains c.args.members.now) (sym same) there))))

pub returns : goal.returns
returns c =
    sym (search_ends_with_none c.args.members.now (is_search_third c.args.first.now c.args.second.now c.args.meet.now)
    c.nodes-node-items.result.now c.loop-node.node-index c.nodes-node-items.ensures.have c.loop-node.invariant
    c.loop-node-test.false)
