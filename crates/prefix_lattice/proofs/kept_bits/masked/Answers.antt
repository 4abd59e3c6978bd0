use Rattle.std.proofs.Common.{◌-◌, bit_and, ap, ◌∙◌, arith}
use Rattle.std.proofs.lemmas.Nat.Bits.{and_high_mask}
use Rattle.prefix_lattice.proofs.kept_bits.masked.Goals as goal

pub returns : goal.returns
returns c =
    ap (bit_and c.args.address) c.mask_of.ensures
    ∙ and_high_mask 32 (32 - c.args.bits) (omega arith) c.args.address (omega arith)
