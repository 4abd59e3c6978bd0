-- The nodes of the lattice and their indices. The crates above cite this file too.
use Rattle.std.proofs.Common.{◌≡◌, ℕ, ◌+◌, ◌*◌, ◌/◌, ◌%◌, ◌<◌, refl, ap, sym, subst, ◌∙◌}
use Rattle.std.proofs.lemmas.Nat.{div-mul-add, mod-mul-add, mul-add-lt, div_below, mod_below, div-add-mod'}
use Rattle.std.proofs.Math.Nat.{mul-div_cancel}
use Rattle.prefix_lattice.specs.Grain.{grain_bits, grain_lengths, node_count}
use Rattle.prefix_lattice.specs.Node.{NodeValue, IsNode, node_index, node_at}
use Rattle.prefix_lattice.specs.declared.grain.Grain.{Grain}
use Rattle.prefix_lattice.proofs.GrainLemmas.{grain_numbers, grain_length-steps, grain_length-in_steps}
use Rattle.prefix_lattice.proofs.GrainLemmas.{grain_length-of_steps}

-- the index of a node is below the number of nodes
pub node_place_is_small : {grain : Grain} (node : NodeValue) → IsNode grain node → node_index node < node_count grain
node_place_is_small {grain} node valid =
    subst (λ g. node_index (record { grain = g; source_bits = node.source_bits; dest_bits = node.dest_bits }) < node_count grain) (sym valid.of_grain)
    (mul-add-lt (node.source_bits / grain_bits grain) (grain_lengths grain) (node.dest_bits / grain_bits grain)
    (grain_lengths grain)
    (grain_length-steps node.source_bits valid.source) (grain_length-steps node.dest_bits valid.dest))

-- a node is the one at its index
pub node_at_own_place : {grain : Grain} (node : NodeValue) → IsNode grain node → node_at grain (node_index node) ≡ node
node_at_own_place {grain} node valid =
    let sources = node.source_bits / grain_bits grain in
    let dests = node.dest_bits / grain_bits grain in
    let make : Grain → ℕ → ℕ → NodeValue = λ g s d. record { grain = g; source_bits = s; dest_bits = d } in
    let index : node_index node ≡ sources * grain_lengths grain + dests =
    ap (λ g. node_index (make g node.source_bits node.dest_bits)) valid.of_grain in
    let source : (sources * grain_lengths grain + dests) / grain_lengths grain ≡ sources =
    div-mul-add sources (grain_lengths grain) dests (grain_length-steps node.dest_bits valid.dest) in
    let dest = mod-mul-add sources (grain_lengths grain) dests (grain_length-steps node.dest_bits valid.dest) in
    ap (node_at grain) index
    ∙ ap (λ s. make grain (s * grain_bits grain)
    ((sources * grain_lengths grain + dests) % grain_lengths grain * grain_bits grain)) source
    ∙ ap (λ d. make grain (sources * grain_bits grain) (d * grain_bits grain)) dest
    ∙ ap (λ s. make grain s (dests * grain_bits grain)) (grain_length-in_steps node.source_bits valid.source)
    ∙ ap (make grain node.source_bits) (grain_length-in_steps node.dest_bits valid.dest)
    ∙ ap (λ g. make g node.source_bits node.dest_bits) (sym valid.of_grain)

-- there is a node at each index below the number of nodes
pub IsNode-node_at_place : (grain : Grain) (place : ℕ) → place < node_count grain → IsNode grain (node_at grain place)
IsNode-node_at_place grain place small = record {
  of_grain = refl;
  source =
      grain_length-of_steps grain (place / grain_lengths grain)
      (div_below place (grain_lengths grain) (grain_lengths grain) (grain_numbers grain).some_lengths small);
  dest =
      grain_length-of_steps grain (place % grain_lengths grain)
      (mod_below place (grain_lengths grain) (grain_numbers grain).some_lengths);
}

pub node_index-node_at_place : (grain : Grain) (place : ℕ) → node_index (node_at grain place) ≡ place
node_index-node_at_place grain place =
    let lengths = grain_lengths grain in
    let numbers = grain_numbers grain in
    ap (λ s. s * lengths + place % lengths * grain_bits grain / grain_bits grain)
    (mul-div_cancel (place / lengths) numbers.some_bits)
    ∙ ap (λ d. place / lengths * lengths + d) (mul-div_cancel (place % lengths) numbers.some_bits)
    ∙ div-add-mod' place lengths

-- a lattice has nodes
pub node_count-some : (grain : Grain) → 0 < node_count grain
node_count-some grain = (grain_numbers grain).some_nodes
