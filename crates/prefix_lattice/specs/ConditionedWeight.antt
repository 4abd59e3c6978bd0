-- What reported prefixes leave unexplained of the weight of another prefix (Mitzenmacher, Steinke, Thaler 2012).
use Rattle.std.specs.Prelude.{ℕ, ◌&&◌, not, List, filter, sum_by}
use Rattle.prefix_lattice.specs.Record.{RecordValue}
use Rattle.prefix_lattice.specs.Prefix.{PrefixValue, covers}
use Rattle.prefix_lattice.specs.ClosestLines.{lines_under, one_line_covers}

-- the conditioned weight of a prefix: the weight of the records that it covers and no line strictly under it covers
abbrev pub conditioned_weight : PrefixValue → List PrefixValue → List RecordValue → ℕ
conditioned_weight prefix lines records =
    sum_by (λ rec. rec.weight)
    (filter (λ rec. covers prefix rec && not (one_line_covers (lines_under prefix lines) rec)) records)
