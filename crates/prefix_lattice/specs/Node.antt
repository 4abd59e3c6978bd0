-- A node of the lattice, as contracts see it.
use Rattle.std.specs.Prelude.{ℕ, ◌≡◌, ◌+◌, ◌*◌, ◌/◌, ◌%◌}
use Rattle.prefix_lattice.specs.Address.{address_length}
use Rattle.prefix_lattice.specs.Grain.{grain_bits, grain_lengths, IsGrainLength}
use Rattle.prefix_lattice.specs.declared.grain.Grain.{Grain}

-- how many leading bits are kept of the source and of the destination, in steps of a grain
pub record NodeValue : Type 0 where
  pub grain : Grain
  pub source_bits : ℕ
  pub dest_bits : ℕ

-- a node of this grain: both lengths are of the grain
pub record IsNode (grain : Grain) (node : NodeValue) : Type 0 where
  pub of_grain : node.grain ≡ grain
  pub source : IsGrainLength grain node.source_bits
  pub dest : IsGrainLength grain node.dest_bits

-- the index of a node among those of its grain, from 0: the steps that it keeps of the source, times the number of
-- lengths, plus the steps that it keeps of the destination
abbrev pub node_index : NodeValue → ℕ
node_index node =
    node.source_bits / grain_bits node.grain * grain_lengths node.grain + node.dest_bits / grain_bits node.grain

-- the node of a grain at this index
abbrev pub node_at : Grain → ℕ → NodeValue
node_at grain index = record {
  grain = grain;
  source_bits = index / grain_lengths grain * grain_bits grain;
  dest_bits = index % grain_lengths grain * grain_bits grain;
}

-- how many bits a node keeps of both addresses together
abbrev pub node_level : NodeValue → ℕ
node_level node = node.source_bits + node.dest_bits

-- the level of the most specific prefixes, which keep all bits of both addresses
abbrev pub deepest_level : ℕ
deepest_level = 2 * address_length
