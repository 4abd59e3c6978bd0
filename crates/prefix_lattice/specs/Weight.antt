-- The weight of a prefix over records, and the weight of all records.
use Rattle.std.specs.Prelude.{ℕ, List, sum_by, filter}
use Rattle.prefix_lattice.specs.Record.{RecordValue}
use Rattle.prefix_lattice.specs.Prefix.{PrefixValue, covers}

-- the weight of a prefix over some records: the sum of the weights of the records that it covers
abbrev pub prefix_weight : PrefixValue → List RecordValue → ℕ
prefix_weight prefix records = sum_by (λ rec. rec.weight) (filter (covers prefix) records)

-- the total weight of some records
abbrev pub total_weight : List RecordValue → ℕ
total_weight records = sum_by (λ rec. rec.weight) records
