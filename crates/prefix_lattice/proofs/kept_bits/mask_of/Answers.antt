use Rattle.std.proofs.Common.{◌≡◌, ◌-◌, ◌/◌, ◌^◌, arith}
use Rattle.std.proofs.lemmas.Nat.{pow_pos}
use Rattle.std.proofs.lemmas.Nat.Bits.{ones_shr}
use Rattle.prefix_lattice.proofs.kept_bits.mask_of.Goals as goal

pub returns : goal.returns
returns c =
    let rest : (2 ^ 32 - 1) / 2 ^ c.args.bits ≡ 2 ^ (32 - c.args.bits) - 1 = ones_shr 32 c.args.bits c.requires in
    omega (arith, rest, pow_pos (32 - c.args.bits))
