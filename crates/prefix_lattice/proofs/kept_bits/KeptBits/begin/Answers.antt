use Rattle.std.proofs.Common.{eqb, ap, sym, ◌∙◌, arith}
use Rattle.prefix_lattice.specs.Address.{address_bits}
use Rattle.prefix_lattice.specs.KeptBits.{begins_with}
use Rattle.prefix_lattice.proofs.AddressLemmas.{begins_with-masked_address}
use Rattle.prefix_lattice.proofs.kept_bits.KeptBits.begin.Goals as goal

pub returns : goal.returns
returns c =
    ap (λ m. eqb m c.self.inside.address) c.masked.ensures
    ∙ sym (begins_with-masked_address c.self.inside.bits c.args.address c.self.inside.address c.self.invariant.0.few
    (omega arith) c.self.invariant.1 c.self.invariant.2)
    ∙ ap (begins_with (address_bits c.args.address)) c.self.view_is
