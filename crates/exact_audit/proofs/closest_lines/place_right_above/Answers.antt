use Rattle.std.proofs.Common.{not, Contains, is_some, sym, ap, subst, ◌∙◌}
use Rattle.std.specs.List.{list_any}
use Rattle.std.proofs.lemmas.Bool.{and_from, and_left, and_right}
use Rattle.prefix_lattice.specs.{strictly_under}
use Rattle.prefix_lattice.specs.declared.grain.Grain.{Grain}
use Rattle.exact_audit.specs.LineCodes.{AreLineCodes}
use Rattle.exact_audit.specs.ClosestLines.{is_between}
use Rattle.exact_audit.proofs.ClosestLineLemmas.{coded_line_at_place, no_upper_line_of_node}
use Rattle.exact_audit.proofs.ClosestLineLemmas.{only_upper_line_right_above}
use Rattle.exact_audit.proofs.DepthLemmas.{uncoded_depth_has_no_line}
use Rattle.exact_audit.proofs.closest_lines.place_right_above.Goals as goal

pub returns-in_default-clause-none : goal.returns-in_default-clause-none
returns-in_default-clause-none c = λ lines upper coded there at.
    and_left (strictly_under c.args.prefix.now upper) (not (list_any (is_between upper c.args.prefix.now) lines))
    (no_upper_line_of_node c.uppers_are_above.ensures.only c.args.prefix.now upper c.args.node
    (sym c.upper.ensures.value ∙ c.in_default.is) at)

pub returns-then-not-strictly_under-clause-none : goal.returns-then-not-strictly_under-clause-none
returns-then-not-strictly_under-clause-none c = λ lines upper coded there at.
    let own = c.in-Some.upper in
    only_upper_line_right_above c.uppers_are_above.ensures.only lines c.args.prefix.now own upper c.args.node
    (sym c.upper.ensures.value ∙ c.in-Some.is) at
    (λ same. and_left (strictly_under c.args.prefix.now own) (not (list_any (is_between own c.args.prefix.now) lines))
    (sym c.strictly_under.ensures.value ∙ c.if-not-strictly_under.true))

pub returns-in_default-place-clause-none : goal.returns-in_default-place-clause-none
returns-in_default-place-clause-none c = λ lines upper coded there at.
    let own = c.in-Some.upper in
    only_upper_line_right_above c.uppers_are_above.ensures.only lines c.args.prefix.now own upper c.args.node
    (sym c.upper.ensures.value ∙ c.in-Some.is) at
    (λ same. absurd (uncoded_depth_has_no_line lines c.args.codes.now.codes.keys own coded
    (sym c.place.ensures.has ∙ ap is_some c.in_default-place.is) (subst (Contains lines) (sym same) there)))

pub returns-then-is_one_between-clause-none : goal.returns-then-is_one_between-clause-none
returns-then-is_one_between-clause-none c = λ lines upper coded there at.
    let own = c.in-Some.upper in
    only_upper_line_right_above c.uppers_are_above.ensures.only lines c.args.prefix.now own upper c.args.node
    (sym c.upper.ensures.value ∙ c.in-Some.is) at
    (λ same. and_right (strictly_under c.args.prefix.now own) (not (list_any (is_between own c.args.prefix.now) lines))
    (ap not (sym (c.is_one_between.ensures lines
    (subst (λ (g : Grain). AreLineCodes g lines c.args.codes.now.codes.keys) (sym c.grain.ensures) coded))
    ∙ c.if-is_one_between.true)))

pub returns-clause-some : goal.returns-clause-some
returns-clause-some c = λ lines coded placed.
    let own = c.in-Some.upper in
    let above = c.uppers_are_above.ensures.above c.args.prefix.now own c.args.node c.upper.ensures.prefix c.requires
    (sym c.upper.ensures.value ∙ c.in-Some.is) in
    record {
      upper = own;
      is = coded_line_at_place c.keys_are_of_their_node.ensures.apart lines c.args.codes.now.codes.keys own
          c.in-Some-place.place coded placed c.place.ensures.prefix c.place.ensures.small
          (sym c.place.ensures.value ∙ c.in-Some-place.is);
      of_node = above.of_node;
      right_above =
          and_from (strictly_under c.args.prefix.now own) (not (list_any (is_between own c.args.prefix.now) lines))
          (sym c.strictly_under.ensures.value ∙ c.if-not-strictly_under.false)
          (ap not (sym (c.is_one_between.ensures lines
          (subst (λ (g : Grain). AreLineCodes g lines c.args.codes.now.codes.keys) (sym c.grain.ensures) coded))
          ∙ c.if-is_one_between.false));
    }
