use Rattle.std.proofs.Common.{◌++◌, ◌∷◌, refl, ap, sym, ◌∙◌}
use Rattle.prefix_lattice.specs.PrefixText.{before_slash}
use Rattle.prefix_lattice.proofs.SideTextLemmas.{side_text-of_parts}
use Rattle.prefix_lattice.proofs.TextCutLemmas.{text_cut-same_behind}
use Rattle.prefix_lattice.proofs.side_reading.parse_side.Goals as goal

pub returns-in_default-length_of_text-clause-fault : goal.returns-in_default-length_of_text-clause-fault
returns-in_default-length_of_text-clause-fault c =
    let text = c.args.text.now in
    let address = c.in-Some-address_of_text.ensures.some in (
      refl,
      (c.in-Some-address_of_text.address, address.0, sym c.in-Some.ensures.before ∙ address.1),
      λ length. c.in_default-length_of_text.ensures.none length.0 length.1
          (text_cut-same_behind 47 text (before_slash text) c.in-Some.cut.after.now _
          (c.in-Some.ensures.joined ∙ ap (λ l. l ++ 47 ∷ c.in-Some.cut.after.now) c.in-Some.ensures.before)
          length.2),
    )

pub returns-in-Some-exact-clause-ok : goal.returns-in-Some-exact-clause-ok
returns-in-Some-exact-clause-ok c =
    let address = c.in-Some-address_of_text in
    let length = c.in-Some-length_of_text in
    side_text-of_parts c.args.grain c.args.text.now c.in-Some.cut.before.now c.in-Some.cut.after.now c.in-Some-exact.kept
    address.address length.bits length.ensures.some.0 c.in-Some-exact.ensures.some c.in-Some.ensures.joined
    address.ensures.some.1 length.ensures.some.1
