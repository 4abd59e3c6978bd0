-- The codes of prefixes, and the nodes of prefixes that are above others.
use Rattle.std.proofs.Common.{◌≡◌, ◌≢◌, ℕ, ◌^◌, ◌<◌, eqb, Bool, true, false, ◌&&◌, refl, sym, ap, ◌∙◌, arith}
use Rattle.std.proofs.lemmas.Bool.{false≢true, eqb-true, eq-eqb, and_parts, and_from}
use Rattle.prefix_lattice.specs.{NodeValue, IsNode, node_index, node_at, PrefixValue, IsPrefix, prefix_code}
use Rattle.prefix_lattice.specs.{node_of_prefix, prefix_key, address_of, grain_bits}
use Rattle.prefix_lattice.specs.declared.grain.Grain.{Grain}
use Rattle.prefix_lattice.proofs.NodePlaceLemmas.{node_at_own_place}

-- what the laws of the lattice say of keys: distinct prefixes of one node have distinct keys, and an address has 32
-- bits
pub record UpperKeysHold : Type 0 where
  pub apart : (grain : Grain) (prefix other : PrefixValue) → IsPrefix grain prefix → IsPrefix grain other
      → node_of_prefix grain prefix ≡ node_of_prefix grain other → prefix_key prefix ≡ prefix_key other → prefix ≡ other
  pub source : (grain : Grain) (prefix : PrefixValue) → IsPrefix grain prefix → address_of prefix.source < 2 ^ 32
  pub dest : (grain : Grain) (prefix : PrefixValue) → IsPrefix grain prefix → address_of prefix.dest < 2 ^ 32

-- the key of a prefix has 64 bits
pub upper_key_is_small : UpperKeysHold → {grain : Grain} (prefix : PrefixValue) → IsPrefix grain prefix
    → prefix_key prefix < 2 ^ 64
upper_key_is_small keys {grain} prefix is =
    let source = keys.source grain prefix is in
    let dest = keys.dest grain prefix is in
    omega (arith, source, dest)

pub upper_node_is_valid : {grain : Grain} (prefix : PrefixValue) → IsPrefix grain prefix
    → IsNode grain (node_of_prefix grain prefix)
upper_node_is_valid prefix is = record {
  of_grain = refl;
  source = record { few = is.source.few; whole = is.source_steps };
  dest = record { few = is.dest.few; whole = is.dest_steps };
}

-- so no two prefixes of a grain have the same code
pub same_upper_code : UpperKeysHold → {grain : Grain} (prefix other : PrefixValue) → IsPrefix grain prefix
    → IsPrefix grain other → prefix_code grain prefix ≡ prefix_code grain other → prefix ≡ other
same_upper_code keys {grain} prefix other is other_is same =
    let small = upper_key_is_small keys prefix is in
    let other_small = upper_key_is_small keys other other_is in
    let index : node_index (node_of_prefix grain prefix) ≡ node_index (node_of_prefix grain other) =
    omega (arith, small, other_small, same) in
    let key : prefix_key prefix ≡ prefix_key other = omega (arith, small, other_small, same) in
    keys.apart grain prefix other is other_is
    (sym (node_at_own_place (node_of_prefix grain prefix) (upper_node_is_valid prefix is)) ∙ ap (node_at grain) index
    ∙ node_at_own_place (node_of_prefix grain other) (upper_node_is_valid other other_is))
    key

-- whether two nodes compare as equal
abbrev pub upper_nodes_are_equal : NodeValue → NodeValue → Bool
upper_nodes_are_equal node other =
    eqb (grain_bits node.grain) (grain_bits other.grain)
    && (eqb node.source_bits other.source_bits && eqb node.dest_bits other.dest_bits)

-- what the comparison of two nodes of one grain says
pub same_upper_node : (node other : NodeValue) → node.grain ≡ other.grain → true ≡ upper_nodes_are_equal node other
    → node ≡ other
same_upper_node node other grain same =
    let make : Grain → ℕ → ℕ → NodeValue = λ g s d. record { grain = g; source_bits = s; dest_bits = d } in
    let lengths = eqb node.source_bits other.source_bits && eqb node.dest_bits other.dest_bits in
    let all = and_parts (eqb (grain_bits node.grain) (grain_bits other.grain)) lengths (sym same) in
    let both = and_parts (eqb node.source_bits other.source_bits) (eqb node.dest_bits other.dest_bits) all.1 in
    ap (λ g. make g node.source_bits node.dest_bits) grain
    ∙ ap (λ s. make other.grain s node.dest_bits) (eqb-true node.source_bits other.source_bits both.0)
    ∙ ap (make other.grain other.source_bits) (eqb-true node.dest_bits other.dest_bits both.1)

pub other_upper_node : (node other : NodeValue) → false ≡ upper_nodes_are_equal node other → node ≢ other
other_upper_node node other differ same =
    false≢true (differ
    ∙ and_from (eqb (grain_bits node.grain) (grain_bits other.grain))
    (eqb node.source_bits other.source_bits && eqb node.dest_bits other.dest_bits)
    (eq-eqb (grain_bits node.grain) (grain_bits other.grain) (ap (λ (n : NodeValue). grain_bits n.grain) same))
    (and_from (eqb node.source_bits other.source_bits) (eqb node.dest_bits other.dest_bits)
    (eq-eqb node.source_bits other.source_bits (ap (λ (n : NodeValue). n.source_bits) same))
    (eq-eqb node.dest_bits other.dest_bits (ap (λ (n : NodeValue). n.dest_bits) same))))
