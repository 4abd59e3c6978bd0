-- The reported prefixes under another prefix, and those of them that are closest to it (Mitzenmacher, Steinke, Thaler
-- 2012).
use Rattle.std.specs.Prelude.{ℕ, ◌≡◌, ◌≢◌, not, Bool, false, List, filter, count_by, AllPairs}
use Rattle.std.specs.List.{list_any}
use Rattle.prefix_lattice.specs.Record.{RecordValue}
use Rattle.prefix_lattice.specs.Prefix.{PrefixValue, covers}
use Rattle.prefix_lattice.specs.Lattice.{strictly_under}

-- the lines that are strictly under a prefix
abbrev pub lines_under : PrefixValue → List PrefixValue → List PrefixValue
lines_under prefix lines = filter (λ line. strictly_under line prefix) lines

-- at least one of these prefixes covers the record
abbrev pub one_line_covers : List PrefixValue → RecordValue → Bool
one_line_covers lines rec = list_any (λ line. covers line rec) lines

-- the members that are strictly under no other member
abbrev pub greatest_lines : List PrefixValue → List PrefixValue
greatest_lines members = filter (λ member. not (list_any (λ other. strictly_under member other) members)) members

-- the closest lines of a prefix: those strictly under it that are strictly under no other such line
abbrev pub closest : PrefixValue → List PrefixValue → List PrefixValue
closest prefix lines = greatest_lines (lines_under prefix lines)

-- distinct prefixes, none of which is strictly under another
pub record AreIncomparable (members : List PrefixValue) : Type 0 where
  pub distinct : AllPairs (λ prefix other. prefix ≢ other) members
  pub none_under : AllPairs
      (λ prefix other. (strictly_under prefix other ≡ false) × (strictly_under other prefix ≡ false)) members

-- how many of these prefixes cover the record
abbrev pub covering_count : RecordValue → List PrefixValue → ℕ
covering_count rec prefixes = count_by (λ prefix. covers prefix rec) prefixes
