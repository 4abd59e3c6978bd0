-- The records of one shard that are counted.
use Rattle.std.specs.Prelude.{ℕ, List, [], take, slice_index, slice_index_or}
use Rattle.prefix_lattice.specs.{RecordValue}

-- the records of a shard before its position
abbrev pub part_at : List (List RecordValue) → List ℕ → ℕ → List RecordValue
part_at lists positions shard = take (slice_index positions shard) (slice_index_or lists shard [])
