-- What the examples of sessions are made of: a shard with one packet, and the header of a capture.
use Rattle.std.proofs.Common.{◌≡◌, ℕ, List, [], ◌∷◌, map, refl}
use Rattle.prefix_lattice.specs.{RecordValue}
use Rattle.shard_state.specs.{ShardValue}
use Rattle.report_session.specs.Session.{session_ends, new_shards, session_start}
use Rattle.dealt_capture.proofs.Examples.{packet}
use Rattle.prefix_lattice.specs.declared.grain.Grain.TheVariants.{Byte}

-- a shard with the packet, and one without records
abbrev pub two_lists : List (List RecordValue)
two_lists = (packet ∷ []) ∷ [] ∷ []

abbrev pub two_shards : List ShardValue
two_shards = new_shards (record { grain = Byte; capacity = 512 }) two_lists

pub start_of_two_shards : session_start two_shards ≡ 0 ∷ 0 ∷ []
start_of_two_shards = refl

pub ends_of_two_shards : session_ends two_shards ≡ 1 ∷ 0 ∷ []
ends_of_two_shards = refl

pub capacity_of_two_shards : map (λ shard. shard.base.shape.capacity) two_shards ≡ 512 ∷ 512 ∷ []
capacity_of_two_shards = refl

-- the header of a little-endian capture
abbrev pub header : List ℕ
header = 0xd4 ∷ 0xc3 ∷ 0xb2 ∷ 0xa1 ∷ 2 ∷ 0 ∷ 4 ∷ 0 ∷ 0 ∷ 0 ∷ 0 ∷ 0 ∷ 0 ∷ 0 ∷ 0 ∷ 0 ∷ 0 ∷ 0 ∷ 4 ∷ 0 ∷ 1 ∷ 0 ∷ 0 ∷ 0 ∷ []
