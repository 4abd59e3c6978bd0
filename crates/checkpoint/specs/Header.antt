-- The settings of a store, and its header.
use Rattle.std.specs.Prelude.{ℕ, ◌≤◌, List, [], ◌∷◌, ◌++◌, replicate, slice_index}
use Rattle.byteorder.specs.Endian.{big_bytes}
use Rattle.prefix_lattice.specs.{shard_limit}
use Rattle.deal_rules.specs.declared.deal_kind.DealKind.{DealKind}
use Rattle.deal_rules.specs.declared.deal_kind.DealKind.TheVariants.{RoundRobin, BySource, Free}
use Rattle.shard_state.specs.{TableShape, least_capacity, most_grain_capacity}
use Rattle.slot_disk.specs.{slot_header}
use Rattle.frame_records.specs.declared.weigh.Weigh.{Weigh}
use Rattle.frame_records.specs.declared.weigh.Weigh.TheVariants.{Bytes, Packets}
use Rattle.checkpoint.specs.declared.header.StoreHeader.{StoreHeader}
use Rattle.checkpoint.specs.declared.settings.StoreSettings.{StoreSettings}
use Rattle.checkpoint.specs.declared.version.Version.TheVariants.{Second}
use Rattle.checkpoint.specs.Version.{VersionTakes, grain_byte, version_number, version_of_number}

-- settings that a store may have: 1 to 16 shards, tables of 2 to 4,096 entries, or to 1,024 by half bytes
pub record AreSettings (settings : StoreSettings) : Type 0 where
  pub some : 1 ≤ settings.shards
  pub few : settings.shards ≤ shard_limit
  pub least : least_capacity ≤ settings.capacity
  pub most : settings.capacity ≤ most_grain_capacity settings.grain

-- the shape of the tables of a store
abbrev pub settings_shape : StoreSettings → TableShape
settings_shape settings = record { grain = settings.grain; capacity = settings.capacity }

-- a header that a store may have: its settings are ones that its version can spell
pub record IsHeader (header : StoreHeader) : Type 0 where
  pub settings : AreSettings header.settings
  pub taken : VersionTakes header.version header.settings.grain

-- the byte of a way of weighing
abbrev pub weighing_byte : Weigh → ℕ
weighing_byte Bytes = 0
weighing_byte Packets = 1

-- the byte of a kind of dealing
abbrev pub dealing_byte : DealKind → ℕ
dealing_byte RoundRobin = 0
dealing_byte BySource = 1
dealing_byte Free = 2

-- the letters HHHS, with which each header begins
abbrev pub letters : List ℕ
letters = 72 ∷ 72 ∷ 72 ∷ 83 ∷ []

-- how many zero bytes fill the header up to 62
abbrev pub zeros : ℕ
zeros = 51

-- a header's bytes: letters, version, shards, capacity in 2 bytes, weighing, dealing, grain, zeros
abbrev pub header_bytes : StoreHeader → List ℕ
header_bytes header =
    letters ++ ((version_number header.version ∷ header.settings.shards ∷ []) ++ (big_bytes 2 header.settings.capacity
    ++ (weighing_byte header.settings.weigh ∷ dealing_byte header.settings.deal ∷ grain_byte header.version header.settings.grain
    ∷ replicate zeros 0)))

-- the header that `format` writes, which is of the second version
abbrev pub written_header : StoreSettings → StoreHeader
written_header settings = record { version = Second; settings = settings }

-- the header that a store of these settings has: only its version is read from the store, whose byte 6, byte 4 of its header,
-- names it; whether the store's bytes have these settings isn't said here
abbrev pub stored_header : StoreSettings → List ℕ → StoreHeader
stored_header settings image = record { version = version_of_number (slice_index (slot_header image) 4); settings = settings }
