use Rattle.std.proofs.Common.{◌≡◌, ◌-◌, ◌*◌, ◌/◌, ◌^◌, ap, ◌∙◌, arith}
use Rattle.std.proofs.lemmas.Nat.{div-add-mod'}
use Rattle.prefix_lattice.specs.Address.{address_of}
use Rattle.prefix_lattice.proofs.AddressLemmas.{address_of-leading}
use Rattle.prefix_lattice.proofs.kept_bits.KeptBits.exact.Goals as goal

pub returns-else-address-clause-none : goal.returns-else-address-clause-none
returns-else-address-clause-none c = λ none_loose.
    let unit = 2 ^ (32 - c.args.bits) in
    let whole : c.args.address / unit * unit ≡ c.args.address =
    omega (arith, div-add-mod' c.args.address unit, none_loose) in
    c.if-address.false
    (c.address.ensures ∙ ap address_of c.of-kept.ensures
    ∙ address_of-leading c.args.bits c.args.address c.requires.few (omega arith) ∙ whole)
