use Rattle.std.proofs.Common.{◌≡◌, ℕ, ◌<◌, ◌^◌, take, ap, sym, subst, ◌∙◌, arith}
use Rattle.prefix_lattice.specs.Address.{address_bits, address_of}
use Rattle.prefix_lattice.specs.Grain.{finest_grain, IsGrainLength}
use Rattle.prefix_lattice.proofs.AddressLemmas.{address_front-masked, masked_address_is_small, address_of-masked}
use Rattle.prefix_lattice.proofs.kept_bits.KeptBits.of.Goals as goal

pub invariant_of-result : goal.invariant_of-result
invariant_of-result c =
    let Kept : ℕ → Type 0 =
    λ m. IsGrainLength finest_grain c.args.bits × (m < 2 ^ 32) × (address_of (take c.args.bits (address_bits m)) ≡ m) in
    subst Kept (sym c.masked.ensures) (
      c.requires,
      masked_address_is_small c.args.bits c.args.address (omega arith),
      address_of-masked c.args.bits c.args.address c.requires.few (omega arith),
    )

pub returns : goal.returns
returns c =
    ap (λ m. take c.args.bits (address_bits m)) c.masked.ensures
    ∙ address_front-masked c.args.bits c.args.address c.requires.few
