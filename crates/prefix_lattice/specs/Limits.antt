-- How much traffic is counted.
use Rattle.std.specs.Prelude.{ℕ, ◌^◌}
use Rattle.prefix_lattice.specs.declared.grain.Grain.{Grain}
use Rattle.prefix_lattice.specs.declared.grain.Grain.TheVariants.{Byte, Nibble}

-- the most records that are dealt or counted, 2^24: as many as a capture may have frames
abbrev pub record_limit : ℕ
record_limit = 16777216

-- the most shards that records are dealt to
abbrev pub shard_limit : ℕ
shard_limit = 16

-- the greatest capacity of the tables of a grain: there are more than three times as many of them by half bytes as by bytes
abbrev pub most_grain_capacity : Grain → ℕ
most_grain_capacity Byte = 4096
most_grain_capacity Nibble = 1024

-- no sum of weights reaches this: 16 shards have at most 2^24 records each, and a record weighs less than 2^32
abbrev pub total_limit : ℕ
total_limit = 2 ^ 60
