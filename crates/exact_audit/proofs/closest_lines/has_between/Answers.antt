use Rattle.std.proofs.Common.{Contains, sym, subst, ◌∙◌}
use Rattle.std.proofs.lemmas.Bool.{and_from, and_left, and_right}
use Rattle.prefix_lattice.specs.{strictly_under}
use Rattle.exact_audit.proofs.ClosestLineLemmas.{coded_line_is_between, no_upper_line_between}
use Rattle.exact_audit.proofs.ClosestLineLemmas.{only_upper_line_between}
use Rattle.exact_audit.proofs.DepthLemmas.{uncoded_depth_has_no_line}
use Rattle.exact_audit.proofs.closest_lines.has_between.Goals as goal

pub returns-in_default-clause-no : goal.returns-in_default-clause-no
returns-in_default-clause-no c = λ lines other coded is there at.
    no_upper_line_between c.uppers_are_above.ensures.only c.args.upper.now c.args.lower.now other c.args.node
    (sym c.upper.ensures.value ∙ c.in_default.is) at

pub returns-then-not-strictly_under-clause-no : goal.returns-then-not-strictly_under-clause-no
returns-then-not-strictly_under-clause-no c = λ lines other coded is there at.
    let own = c.in-Some.other in
    only_upper_line_between c.uppers_are_above.ensures.only c.args.upper.now c.args.lower.now own other c.args.node
    (sym c.upper.ensures.value ∙ c.in-Some.is) at
    (λ same. and_left (strictly_under own c.args.upper.now) (strictly_under c.args.lower.now own)
    (sym c.strictly_under.ensures.value ∙ c.if-not-strictly_under.true))

pub returns-then-not-strictly_under-2-clause-no : goal.returns-then-not-strictly_under-2-clause-no
returns-then-not-strictly_under-2-clause-no c = λ lines other coded is there at.
    let own = c.in-Some.other in
    only_upper_line_between c.uppers_are_above.ensures.only c.args.upper.now c.args.lower.now own other c.args.node
    (sym c.upper.ensures.value ∙ c.in-Some.is) at
    (λ same. and_right (strictly_under own c.args.upper.now) (strictly_under c.args.lower.now own)
    (sym c.strictly_under-2.ensures.value ∙ c.if-not-strictly_under-2.true))

pub returns-clause-yes : goal.returns-clause-yes
returns-clause-yes c = λ lines coded is.
    let own = c.in-Some.other in
    coded_line_is_between c.keys_are_of_their_node.ensures.apart lines c.args.codes.now.codes.keys c.args.upper.now
    c.args.lower.now own coded c.has.ensures.prefix c.has.ensures.small (sym c.has.ensures.value ∙ is)
    (and_from (strictly_under own c.args.upper.now) (strictly_under c.args.lower.now own)
    (sym c.strictly_under.ensures.value ∙ c.if-not-strictly_under.false)
    (sym c.strictly_under-2.ensures.value ∙ c.if-not-strictly_under-2.false))

pub returns-clause-no : goal.returns-clause-no
returns-clause-no c = λ lines other coded is there at.
    let own = c.in-Some.other in
    only_upper_line_between c.uppers_are_above.ensures.only c.args.upper.now c.args.lower.now own other c.args.node
    (sym c.upper.ensures.value ∙ c.in-Some.is) at
    (λ same. absurd (uncoded_depth_has_no_line lines c.args.codes.now.codes.keys own coded
    (sym c.has.ensures.value ∙ is) (subst (Contains lines) (sym same) there)))
