-- Prefixes of records, their nodes and their keys.
use Rattle.std.specs.Prelude.{ℕ, List, ◌+◌, ◌*◌, ◌^◌, ◌&&◌, Bool, length, take, ◌≡◌, ◌-◌, ◌/◌, ◌%◌}
use Rattle.prefix_lattice.specs.KeptBits.{AreLeadingBits, begins_with}
use Rattle.prefix_lattice.specs.Address.{address_bits, address_of, address_length}
use Rattle.prefix_lattice.specs.Grain.{grain_bits}
use Rattle.prefix_lattice.specs.Record.{RecordValue}
use Rattle.prefix_lattice.specs.Node.{NodeValue, node_index}
use Rattle.prefix_lattice.specs.declared.grain.Grain.{Grain}

-- the leading bits of the source and of the destination
pub record PrefixValue : Type 0 where
  pub source : List ℕ
  pub dest : List ℕ

-- a prefix of a grain: a pair of lists of leading bits, each of whole steps of the grain (Mitzenmacher, Steinke, Thaler
-- 2012, at the granularity of bytes or half bytes)
pub record IsPrefix (grain : Grain) (prefix : PrefixValue) : Type 0 where
  pub source : AreLeadingBits prefix.source
  pub dest : AreLeadingBits prefix.dest
  pub source_steps : length prefix.source % grain_bits grain ≡ 0
  pub dest_steps : length prefix.dest % grain_bits grain ≡ 0

-- a prefix covers a record whose addresses begin with its bits
abbrev pub covers : PrefixValue → RecordValue → Bool
covers prefix rec = begins_with (address_bits rec.src) prefix.source && begins_with (address_bits rec.dst) prefix.dest

-- how many bits a prefix keeps of both addresses together
abbrev pub prefix_level : PrefixValue → ℕ
prefix_level prefix = length prefix.source + length prefix.dest

-- the node of a prefix of a grain: how many bits it keeps of each address
abbrev pub node_of_prefix : Grain → PrefixValue → NodeValue
node_of_prefix grain prefix = record {
  grain = grain;
  source_bits = length prefix.source;
  dest_bits = length prefix.dest;
}

-- the prefix at a node that covers a record: the leading bits of the record's addresses, as many as the node keeps
abbrev pub prefix_at : NodeValue → RecordValue → PrefixValue
prefix_at node rec = record {
  source = take node.source_bits (address_bits rec.src);
  dest = take node.dest_bits (address_bits rec.dst);
}

-- the two addresses of a prefix as one number, the source in the high half
abbrev pub prefix_key : PrefixValue → ℕ
prefix_key prefix = address_of prefix.source * 2 ^ 32 + address_of prefix.dest

-- the code of a prefix of a grain: the index of its node, and its key in the 64 bits below; no two prefixes of the grain
-- share one
abbrev pub prefix_code : Grain → PrefixValue → ℕ
prefix_code grain prefix = node_index (node_of_prefix grain prefix) * 2 ^ 64 + prefix_key prefix

-- a key of a node: neither address has a bit set past those that the node keeps
pub record IsPrefixKey (node : NodeValue) (key : ℕ) : Type 0 where
  pub source : key / 2 ^ 32 % 2 ^ (address_length - node.source_bits) ≡ 0
  pub dest : key % 2 ^ 32 % 2 ^ (address_length - node.dest_bits) ≡ 0

-- a prefix of this node that has this key
pub record HasPrefixKey (node : NodeValue) (key : ℕ) (prefix : PrefixValue) : Type 0 where
  pub is_prefix : IsPrefix node.grain prefix
  pub of_node : node_of_prefix node.grain prefix ≡ node
  pub of_key : prefix_key prefix ≡ key
