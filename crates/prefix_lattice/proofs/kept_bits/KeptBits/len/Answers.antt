use Rattle.std.proofs.Common.{◌≡◌, ◌%◌, List, length, ap, ◌∙◌, sym, subst}
use Rattle.prefix_lattice.specs.KeptBits.{AreLeadingBits}
use Rattle.prefix_lattice.proofs.AddressLemmas.{address_front_is_leading, address_front-length}
use Rattle.prefix_lattice.proofs.kept_bits.KeptBits.len.Goals as goal

pub returns-clause-len : goal.returns-clause-len
returns-clause-len c =
    sym (address_front-length c.self.inside.bits c.self.inside.address c.self.invariant.0.few) ∙ ap length c.self.view_is

pub returns-clause-leading : goal.returns-clause-leading
returns-clause-leading c =
    subst AreLeadingBits c.self.view_is
    (address_front_is_leading c.self.inside.bits c.self.inside.address c.self.invariant.0.few)

pub returns-clause-steps : goal.returns-clause-steps
returns-clause-steps c =
    subst (λ (front : List _). length front % 4 ≡ 0) c.self.view_is
    (ap (λ n. n % 4) (address_front-length c.self.inside.bits c.self.inside.address c.self.invariant.0.few)
    ∙ c.self.invariant.0.whole)
