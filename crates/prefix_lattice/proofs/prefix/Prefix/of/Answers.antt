use Rattle.std.proofs.Common.{◌≡◌, true, take, refl, ap, sym, subst, ◌∙◌}
use Rattle.prefix_lattice.specs.Address.{address_bits}
use Rattle.prefix_lattice.specs.Record.{RecordValue}
use Rattle.prefix_lattice.specs.Grain.{IsGrainLength}
use Rattle.prefix_lattice.specs.Node.{IsNode}
use Rattle.prefix_lattice.specs.Prefix.{PrefixValue, IsPrefix, covers, node_of_prefix, prefix_at}
use Rattle.prefix_lattice.proofs.NodePrefixLemmas.{node_prefix-covers, only_node_prefix_covers}
use Rattle.prefix_lattice.proofs.NodePrefixLemmas.{node_prefix-is_of_node, node_prefix-made_of_bits}
use Rattle.prefix_lattice.proofs.prefix.Prefix.of.Goals as goal

-- the prefix made of the record's first bits is its prefix at the node
made : (c : goal.After-of-2)
    → Path PrefixValue (record { source = c.of.result; dest = c.of-2.result })
    (prefix_at c.args.node c.args.rec.now)
made c =
    node_prefix-made_of_bits c.args.node c.args.rec.now c.source_bits.result c.dest_bits.result c.of.result c.of-2.result
    c.source_bits.ensures.value c.dest_bits.ensures.value
    (c.of.ensures ∙ ap (λ (r : RecordValue). take c.source_bits.result (address_bits r.src)) c.rec.view_is)
    (c.of-2.ensures ∙ ap (λ (r : RecordValue). take c.dest_bits.result (address_bits r.dst)) c.rec.view_is)
    (record { source = c.of.result; dest = c.of-2.result }) refl refl

-- the node keeps lengths of its grain
is_node : (c : goal.After-of-2) → IsNode c.args.node.grain c.args.node
is_node c = record {
  of_grain = refl;
  source = subst (IsGrainLength c.args.node.grain) c.source_bits.ensures.value c.source_bits.ensures.length;
  dest = subst (IsGrainLength c.args.node.grain) c.dest_bits.ensures.value c.dest_bits.ensures.length;
}

pub returns-clause-value : goal.returns-clause-value
returns-clause-value c = made c

pub returns-clause-prefix : goal.returns-clause-prefix
returns-clause-prefix c =
    subst (IsPrefix c.args.node.grain) (sym (made c))
    (node_prefix-is_of_node c.args.node c.args.rec.now (is_node c)).is_prefix

pub returns-clause-node : goal.returns-clause-node
returns-clause-node c =
    ap (node_of_prefix c.args.node.grain) (made c)
    ∙ (node_prefix-is_of_node c.args.node c.args.rec.now (is_node c)).of_node

pub returns-clause-covers : goal.returns-clause-covers
returns-clause-covers c =
    let valid = is_node c in
    subst (λ p. covers p c.args.rec.now ≡ true) (sym (made c))
    (node_prefix-covers c.args.node c.args.rec.now valid.source.few valid.dest.few)

pub returns-clause-only : goal.returns-clause-only
returns-clause-only c = λ other of_node covered.
    only_node_prefix_covers c.args.node c.args.rec.now other of_node covered ∙ sym (made c)
