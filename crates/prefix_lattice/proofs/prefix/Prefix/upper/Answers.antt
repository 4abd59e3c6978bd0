use Rattle.std.proofs.Common.{◌≤◌, ℕ, length, ap, ◌∙◌, sym, Some, arith}
use Rattle.prefix_lattice.specs.Address.{address_of}
use Rattle.prefix_lattice.specs.Prefix.{prefix_at}
use Rattle.prefix_lattice.proofs.UpperLemmas.{upper_of_addresses-shortened, upper-some}
use Rattle.prefix_lattice.proofs.prefix.Prefix.upper.Goals as goal

pub returns-clause-value : goal.returns-clause-value
returns-clause-value c =
    let prefix = c.args.self.now in
    let node = c.args.node in
    let sources : node.source_bits ≤ length prefix.source =
    omega (arith, c.source_bits.ensures.value, c.source_bits-2.ensures, c.if-source_bits.false) in
    let dests : node.dest_bits ≤ length prefix.dest =
    omega (arith, c.dest_bits.ensures.value, c.dest_bits-else-source_bits.ensures, c.if-dest_bits.false) in
    ap Some
    (c.of.ensures.value
    ∙ ap (λ (src : ℕ). prefix_at node (record { src = src; dst = c.dest.result; weight = 1 })) c.source.ensures
    ∙ ap (λ (dst : ℕ). prefix_at node (record { src = address_of prefix.source; dst = dst; weight = 1 })) c.dest.ensures
    ∙ upper_of_addresses-shortened prefix node c.keeps_leading_bits.ensures sources dests)
    ∙ sym (upper-some prefix node sources dests)
