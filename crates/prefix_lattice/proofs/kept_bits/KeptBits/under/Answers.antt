use Rattle.std.proofs.Common.{◌≤◌, ◌<◌, eqb, take, ap, sym, ◌∙◌, arith}
use Rattle.std.proofs.lemmas.Bool.{lt-leb}
use Rattle.prefix_lattice.specs.Address.{address_bits}
use Rattle.prefix_lattice.specs.KeptBits.{begins_with}
use Rattle.prefix_lattice.proofs.AddressLemmas.{begins_with-masked_address, address_front-begins_with}
use Rattle.prefix_lattice.proofs.AddressLemmas.{address_front-begins_no_more}
use Rattle.prefix_lattice.proofs.kept_bits.KeptBits.under.Goals as goal

pub returns-then-other-self : goal.returns-then-other-self
returns-then-other-self c =
    let own = c.self.inside in
    let other = c.other.inside in
    let fewer : other.bits ≤ own.bits = omega (arith, c.if-other-self.true) in
    ap (λ m. eqb m other.address) c.masked.ensures
    ∙ sym (begins_with-masked_address other.bits own.address other.address c.other.invariant.0.few c.self.invariant.1
    c.other.invariant.1 c.other.invariant.2)
    ∙ sym (address_front-begins_with own.bits other.bits own.address other.address fewer c.self.invariant.0.few)
    ∙ ap (λ front. begins_with front (take other.bits (address_bits other.address))) c.self.view_is
    ∙ ap (begins_with c.args.self.now) c.other.view_is

pub returns-else-other-self : goal.returns-else-other-self
returns-else-other-self c =
    let own = c.self.inside in
    let other = c.other.inside in
    let more : own.bits < other.bits = c.if-other-self.false in
    lt-leb other.bits own.bits more
    ∙ sym (address_front-begins_no_more own.bits other.bits own.address other.address more c.other.invariant.0.few)
    ∙ ap (λ front. begins_with front (take other.bits (address_bits other.address))) c.self.view_is
    ∙ ap (begins_with c.args.self.now) c.other.view_is
