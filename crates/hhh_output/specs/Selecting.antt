-- How the lines of a report are selected among the candidates of merged tables, which no public contract cites.
use Rattle.std.specs.Prelude.{ℕ, ◌≡◌, ◌≢◌, ◌+◌, ◌-◌, ◌*◌, ◌<◌, ◌≤◌, ◌==◌, ◌↔◌, zero, suc, List, length}
use Rattle.std.specs.Prelude.{if◌then◌else◌, All, AllPairs, Contains, pos, ◌≤ℤ◌}
use Rattle.std.specs.declared.cmp.Ordering.TheVariants.{Less}
use Rattle.prefix_lattice.specs.{NodeValue, IsNode, node_at, node_level, PrefixValue, IsPrefix, node_of_prefix}
use Rattle.prefix_lattice.specs.{prefix_key, prefix_level, IsPrefixKey, report_order, deepest_level, node_count}
use Rattle.prefix_lattice.specs.declared.grain.Grain.{Grain}
use Rattle.shard_state.specs.{most_snapshots, most_grain_capacity}
use Rattle.cut_merge.specs.{MergedValue, interval_for, candidates_at}
use Rattle.conditioned_bounds.specs.{bound_of}
use Rattle.hhh_report.specs.declared.line.Line.{Line}
use Rattle.hhh_report.specs.{prefixes_of_lines}

-- the low of a prefix in merged tables
abbrev pub low_of : MergedValue → PrefixValue → ℕ
low_of merged prefix = (interval_for merged prefix).low

-- the high of a prefix in merged tables
abbrev pub high_of : MergedValue → PrefixValue → ℕ
high_of merged prefix = (interval_for merged prefix).high

-- a line that merged tables give over other lines: it shows the interval of its prefix, which is heavy and unexplained
pub record CanSelect (merged : MergedValue) (threshold : ℕ) (lines : List PrefixValue) (line : Line) : Type 0 where
  pub low : line.lo ≡ low_of merged line.prefix
  pub high : line.hi ≡ high_of merged line.prefix
  pub heavy : threshold ≤ line.hi
  pub unexplained : pos threshold ≤ℤ bound_of (low_of merged) (high_of merged) line.prefix lines

-- such a line, whose prefix is a candidate of the tables' grain
pub record IsSelected (merged : MergedValue) (threshold : ℕ) (lines : List PrefixValue) (line : Line) : Type 0 where
  pub is_prefix : IsPrefix merged.shape.grain line.prefix
  pub candidate : Contains (candidates_at merged (node_of_prefix merged.shape.grain line.prefix))
      (prefix_key line.prefix)
  pub asked : CanSelect merged threshold lines line

-- the most candidates of a node of a grain: 128 shards, each with a table of at most so many entries
abbrev pub most_candidates : Grain → ℕ
most_candidates grain = most_snapshots * most_grain_capacity grain

-- the candidates of each node of the tables' grain are distinct keys of the node, and no more than a node can have
pub record AreCandidates (merged : MergedValue) : Type 0 where
  pub keyed : (node : NodeValue) → IsNode merged.shape.grain node → All (IsPrefixKey node) (candidates_at merged node)
  pub distinct : (node : NodeValue) → IsNode merged.shape.grain node
      → AllPairs (λ key other. key ≢ other) (candidates_at merged node)
  pub few : (node : NodeValue) → IsNode merged.shape.grain node
      → length (candidates_at merged node) ≤ most_candidates merged.shape.grain

-- how many of a grain's nodes before an index have this level
abbrev pub nodes_before : Grain → ℕ → ℕ → ℕ
nodes_before grain level zero = 0
nodes_before grain level (suc place) =
    nodes_before grain level place + (if node_level (node_at grain place) == level then 1 else 0)

-- how many nodes of a grain this many levels have, from the deepest level down
abbrev pub nodes_down : Grain → ℕ → ℕ
nodes_down grain zero = 0
nodes_down grain (suc levels) =
    nodes_down grain levels + nodes_before grain (deepest_level - levels) (node_count grain)

-- no two of these lines have the same prefix
abbrev pub AreDistinct : List Line → Type 0
AreDistinct lines = AllPairs (λ line other. line.prefix ≢ other.prefix) lines

-- these lines are exactly those of a level that merged tables give over the reported lines, in the order of a report
pub record AreOfLevel (merged : MergedValue) (threshold : ℕ) (reported : List PrefixValue) (level : ℕ)
    (found : List Line) : Type 0 where
  pub members : (line : Line)
      → Contains found line ↔ ((prefix_level line.prefix ≡ level) × IsSelected merged threshold reported line)
  pub rising : AllPairs (λ line later. report_order line.prefix later.prefix ≡ Less) found
  pub few : length found
      ≤ nodes_before merged.shape.grain level (node_count merged.shape.grain) * most_candidates merged.shape.grain

-- these lines are exactly those of this many levels, from the deepest level down, that merged tables give over them
pub record AreDownTo (merged : MergedValue) (threshold levels : ℕ) (lines : List Line) : Type 0 where
  pub above : (line : Line) → Contains lines line → deepest_level < prefix_level line.prefix + levels
  pub members : (line : Line) → deepest_level < prefix_level line.prefix + levels
      → Contains lines line ↔ IsSelected merged threshold (prefixes_of_lines lines) line
  pub rising : AllPairs (λ line later. report_order line.prefix later.prefix ≡ Less) lines
  pub few : length lines ≤ nodes_down merged.shape.grain levels * most_candidates merged.shape.grain
