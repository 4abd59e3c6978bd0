-- The grains of the lattice: the steps, in bits, by which a prefix may keep more of an address.
use Rattle.std.specs.Prelude.{ℕ, ◌≡◌, ◌≤◌, ◌+◌, ◌*◌, ◌/◌, ◌%◌}
use Rattle.prefix_lattice.specs.Address.{address_length}
use Rattle.prefix_lattice.specs.declared.grain.Grain.{Grain}
use Rattle.prefix_lattice.specs.declared.grain.Grain.TheVariants.{Byte, Nibble}

-- the bits of one step: whole bytes, or half of them
abbrev pub grain_bits : Grain → ℕ
grain_bits Byte = 8
grain_bits Nibble = 4

-- the grain whose steps are the smallest: each prefix is one of this grain
abbrev pub finest_grain : Grain
finest_grain = Nibble

-- how many lengths a side of a prefix may have, from no bit to all of them
abbrev pub grain_lengths : Grain → ℕ
grain_lengths grain = address_length / grain_bits grain + 1

-- the number of nodes of the lattice: a node has a length for each of two addresses
abbrev pub node_count : Grain → ℕ
node_count grain = grain_lengths grain * grain_lengths grain

-- a length in bits that a side of a prefix of this grain may have
pub record IsGrainLength (grain : Grain) (bits : ℕ) : Type 0 where
  pub few : bits ≤ address_length
  pub whole : bits % grain_bits grain ≡ 0
