use Rattle.std.proofs.Common.{◌∙◌, All, get_or, subst, sym, take, take_all}
use Rattle.std.proofs.lemmas.List.{take_more}
use Rattle.std.proofs.lemmas.List.Elements.{All-push}
use Rattle.prefix_lattice.specs.{IsPrefix}
use Rattle.top_call_tests.proofs.tests.indexed_lines.are_of_grain.Goals as goal

pub loop-prefix-preserved : goal.loop-prefix-preserved
loop-prefix-preserved c =
    let prefixes = c.as_slice-prefix-items.result.now in
    let place = c.loop-prefix.prefix-index in
    let prefix = c.prefix-item.result in
    subst (All (IsPrefix c.args.grain)) (sym (take_more prefixes place prefix c.loop-prefix-test.true))
    (All-push (IsPrefix c.args.grain) (take place prefixes) (get_or prefixes place prefix) c.loop-prefix.invariant
    (subst (IsPrefix c.args.grain) c.prefix-item.is (c.of_grain.ensures.0 c.if-not-of_grain.false)))

pub returns : goal.returns
returns c = λ _.
    subst (All (IsPrefix c.args.grain))
    (take_all c.loop-prefix.prefix-index c.as_slice-prefix-items.result.now c.loop-prefix-test.false
    ∙ c.as_slice-prefix-items.ensures.value) c.loop-prefix.invariant
