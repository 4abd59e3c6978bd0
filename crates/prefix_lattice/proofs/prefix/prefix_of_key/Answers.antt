use Rattle.std.proofs.Common.{refl, subst, arith}
use Rattle.prefix_lattice.specs.Grain.{IsGrainLength}
use Rattle.prefix_lattice.proofs.PrefixKeyLemmas.{HasPrefixKey-of_sides}
use Rattle.prefix_lattice.proofs.prefix.prefix_of_key.Goals as goal

pub returns-clause-some : goal.returns-clause-some
returns-clause-some c =
    HasPrefixKey-of_sides c.args.node c.args.key _ _ c.source_bits.result c.dest_bits.result c.in_ok-source.source c.in_ok-dest.dest
    (record {
      of_grain = refl;
      source = subst (IsGrainLength c.args.node.grain) c.source_bits.ensures.value c.source_bits.ensures.length;
      dest = subst (IsGrainLength c.args.node.grain) c.dest_bits.ensures.value c.dest_bits.ensures.length;
    })
    c.source_bits.ensures.value c.dest_bits.ensures.value (omega arith) c.in_ok-source.ensures.some c.in_ok-dest.ensures.some
