-- What passes over the records find of lines and of prefixes that no line has.
use Rattle.std.specs.Prelude.{ℕ, ◌≡◌, ◌≢◌, ◌<◌, ◌⊎◌, List, length, Option, None, Some, slice_get, nat_eq, true}
use Rattle.std.specs.List.{list_any}
use Rattle.std.specs.declared.cmp.Ordering.{Ordering}
use Rattle.std.specs.declared.cmp.Ordering.TheVariants.{Less, Equal, Greater}
use Rattle.prefix_lattice.specs.{RecordValue, node_index, PrefixValue, node_of_prefix, prefix_key, report_order}
use Rattle.prefix_lattice.specs.declared.grain.Grain.{Grain}
use Rattle.hhh_report.specs.declared.line.Line.{Line}
use Rattle.hhh_report.specs.{prefixes_of_lines}
use Rattle.exact_audit.specs.declared.node_sums.Sums.{Sums}
use Rattle.exact_audit.specs.declared.left_out.LeftOut.{LeftOut}
use Rattle.exact_audit.specs.declared.findings.Findings.{Findings}
use Rattle.exact_audit.specs.NodeSums.{sums_of}
use Rattle.exact_audit.specs.LeftOut.{IsLeftOut}

-- as many sums as lines, and those of each line whose node, among those of a grain, is before an index
pub record AreSumsBefore (grain : Grain) (index : ℕ) (lines : List Line) (records : List RecordValue)
    (sums : List Sums) : Type 0 where
  pub as_many : length sums ≡ length lines
  pub each : (place : ℕ) (line : Line) → slice_get lines place ≡ Some line
      → node_index (node_of_prefix grain line.prefix) < index
      → slice_get sums place ≡ Some (sums_of (prefixes_of_lines lines) records line.prefix)

-- as many sums as lines, and those of each line
pub record AreSumsOf (lines : List Line) (records : List RecordValue) (sums : List Sums) : Type 0 where
  pub as_many : length sums ≡ length lines
  pub each : (place : ℕ) (line : Line) → slice_get lines place ≡ Some line
      → slice_get sums place ≡ Some (sums_of (prefixes_of_lines lines) records line.prefix)

-- the other if it comes first in the order of a report, and else the first
abbrev pub first_by : Ordering → LeftOut → LeftOut → LeftOut
first_by Less other first = other
first_by Equal other first = first
first_by Greater other first = first

-- the first of two
abbrev pub first_with : Option LeftOut → LeftOut → LeftOut
first_with None other = other
first_with (Some first) other = first_by (report_order other.prefix first.prefix) other first

-- of the prefixes and weights that meet a condition, the first in the order of a report, if there is one
abbrev pub IsFirst : (PrefixValue → ℕ → Type 0) → Option LeftOut → Type 0
IsFirst Meets None = (prefix : PrefixValue) (weight : ℕ) → Meets prefix weight → ⊥
IsFirst Meets (Some first) = Meets first.prefix first.weight
    × ((prefix : PrefixValue) (weight : ℕ) → Meets prefix weight → report_order prefix first.prefix ≢ Less)

-- the first of the prefixes of a grain that are left out and whose node is before an index
abbrev pub IsFirstBefore : Grain → ℕ → List PrefixValue → List RecordValue → ℕ → Option LeftOut → Type 0
IsFirstBefore grain index lines records threshold found = IsFirst
    (λ prefix weight. IsLeftOut grain lines records threshold prefix weight
    × (node_index (node_of_prefix grain prefix) < index)) found

-- the first of those before the index of a node, and of those of the node with one of these keys
abbrev pub IsFirstWith : Grain → ℕ → List ℕ → List PrefixValue → List RecordValue → ℕ → Option LeftOut → Type 0
IsFirstWith grain index keys lines records threshold found = IsFirst
    (λ prefix weight. IsLeftOut grain lines records threshold prefix weight
    × ((node_index (node_of_prefix grain prefix) < index)
    ⊎ ((node_index (node_of_prefix grain prefix) ≡ index) × (list_any (nat_eq (prefix_key prefix)) keys ≡ true)))) found

-- what was found of lines and records: the sums of each line, and the first prefix of a grain that is left out
pub record AreFindings (grain : Grain) (lines : List Line) (records : List RecordValue) (threshold : ℕ)
    (findings : Findings) : Type 0 where
  pub sums : AreSumsOf lines records findings.sums.items
  pub left_out : IsFirst (IsLeftOut grain (prefixes_of_lines lines) records threshold) findings.left_out
