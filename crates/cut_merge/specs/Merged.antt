-- The tables of a cut, merged.
use Rattle.std.specs.Prelude.{ℕ, List, ◌≡◌, ◌<◌, ◌≤◌, [], ◌∷◌, ◌++◌, ◌==◌, length, slice_index_or, sum_by, fold}
use Rattle.std.specs.Prelude.{if◌then◌else◌}
use Rattle.std.specs.List.{list_any, AllZip}
use Rattle.prefix_lattice.specs.{NodeValue, IsNode, node_index, PrefixValue, IsPrefix, node_of_prefix, prefix_key}
use Rattle.prefix_lattice.specs.{node_count}
use Rattle.prefix_lattice.specs.{total_limit}
use Rattle.space_saving.specs.{TableInterval, TableValue, interval_in, table_total}
use Rattle.shard_state.specs.{CutValue, TableShape, total_of_cut}
use Rattle.cut_merge.specs.Run.{RunValue, run_interval, IsRunOf, missing_high}
use Rattle.cut_merge.specs.NodeMerge.{NodeMergeValue}
use Rattle.cut_merge.specs.CutTables.{interval_in_cut, monitored_in_cut, FitsTotal}
use Rattle.cut_merge.specs.CutTables.{keys_of, monitored_in}

-- the shape of the tables, the weight that they counted together, and the merged tables of each node of their grain, in
-- the order of the nodes' indexes
pub record MergedValue : Type 0 where
  pub shape : TableShape
  pub total : ℕ
  pub nodes : List NodeMergeValue

-- the merge of no tables
abbrev pub nothing_merged : NodeMergeValue
nothing_merged = record { runs = []; keys = [] }

-- the merged tables of a node
abbrev pub merge_at : NodeValue → MergedValue → NodeMergeValue
merge_at node merged = slice_index_or merged.nodes (node_index node) nothing_merged

-- the interval of a key in the merged tables of a node: its lows and its highs in the runs, each added up
abbrev pub interval_for_key : NodeMergeValue → ℕ → TableInterval
interval_for_key merge key = record {
  low = sum_by (λ run. (run_interval run key).low) merge.runs;
  high = sum_by (λ run. (run_interval run key).high) merge.runs;
}

-- the interval of a prefix in merged tables
abbrev pub interval_for : MergedValue → PrefixValue → TableInterval
interval_for merged prefix =
    interval_for_key (merge_at (node_of_prefix merged.shape.grain prefix) merged) (prefix_key prefix)

-- the keys of a node that merged tables hold
abbrev pub candidates_at : MergedValue → NodeValue → List ℕ
candidates_at merged node = (merge_at node merged).keys

-- merged tables represent a cut: their shape and total, and the interval of each prefix and the candidates of each node
-- of its grain, are those of the cut
pub record RepresentsCut (merged : MergedValue) (cut : CutValue) : Type 0 where
  pub shape : merged.shape ≡ cut.shape
  pub total : merged.total ≡ total_of_cut cut
  pub intervals : (prefix : PrefixValue) → IsPrefix cut.shape.grain prefix
      → interval_for merged prefix ≡ interval_in_cut cut prefix
  pub candidates : (node : NodeValue) → IsNode cut.shape.grain node → candidates_at merged node ≡ monitored_in_cut cut node

-- what always holds of merged tables: there is one for each node of the grain, and no interval is above the total, which
-- is below 2^60
pub record IsMerged (merged : MergedValue) : Type 0 where
  pub bounded : merged.total < total_limit
  pub as_many : length merged.nodes ≡ node_count merged.shape.grain
  pub intervals : (place key : ℕ)
      → FitsTotal merged.total (interval_for_key (slice_index_or merged.nodes place nothing_merged) key)

-- the keys seen so far after one more key: a new key is appended
abbrev pub keys_seen : List ℕ → ℕ → List ℕ
keys_seen keys key = if list_any (λ other. key == other) keys then keys else keys ++ key ∷ []

-- an interval of a table has its ends in order and within the table's total, and its high is not below
-- that of a missing key
pub record CanBeMerged (key : ℕ) (table : TableValue) : Type 0 where
  pub ordered : (interval_in table key).low ≤ (interval_in table key).high
  pub within_total : (interval_in table key).high ≤ table_total table.entries
  pub above_missing : missing_high table ≤ (interval_in table key).high

-- one more table was merged in: its run, and the keys that are new
pub record WithTable (old : NodeMergeValue) (table : TableValue) (new : NodeMergeValue) : Type 0 where
  pub run : RunValue
  pub is_run : IsRunOf run table
  pub runs : new.runs ≡ old.runs ++ run ∷ []
  pub keys : new.keys ≡ fold keys_seen old.keys (keys_of table)

-- the merge represents these tables: it has the run of each, and the keys that they monitor
pub record NodeRepresents (merge : NodeMergeValue) (tables : List TableValue) : Type 0 where
  pub runs : AllZip IsRunOf merge.runs tables
  pub keys : merge.keys ≡ monitored_in tables
