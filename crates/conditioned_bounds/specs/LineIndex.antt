-- Lines and the numbers of those that are strictly under each prefix.
use Rattle.std.specs.Prelude.{ℕ, ◌≡◌, ◌≢◌, ◌<◌, List, length, map, All, AllPairs, slice_index_or, [], Vec}
use Rattle.std.specs.BTreeMap.{BTreeMap}
use Rattle.std.specs.declared.alloc.Global.{Global}
use Rattle.prefix_lattice.specs.{PrefixValue, IsPrefix, lines_under, prefix_code}
use Rattle.prefix_lattice.specs.declared.grain.Grain.{Grain}
use Rattle.conditioned_bounds.specs.Members.{member_limit}
use Rattle.conditioned_bounds.specs.Numbers.{line_numbers_at}

-- an index as contracts see it: the grain of its lines, and the lines in the order in which they were pushed
pub record LineIndexValue : Type 0 where
  pub grain : Grain
  pub lines : List PrefixValue

-- the prefix that keeps no bit
abbrev pub root_line : PrefixValue
root_line = record { source = []; dest = [] }

-- the line of a number
abbrev pub indexed_line : List PrefixValue → ℕ → PrefixValue
indexed_line lines number = slice_index_or lines number root_line

-- there are fewer than 2^24 lines, all of this grain and distinct, each number that is kept is that of a line, and
-- those kept under the code of a prefix of the grain are the numbers of the lines that are strictly under it, in the
-- order of the lines
pub record AreIndexed (grain : Grain) (lines : List PrefixValue) (kept : BTreeMap ℕ (Vec ℕ Global)) : Type 0 where
  pub few : length lines < member_limit
  pub prefixes : All (IsPrefix grain) lines
  pub distinct : AllPairs (λ line other. line ≢ other) lines
  pub numbers : (code : ℕ) → All (λ number. number < length lines) (line_numbers_at kept code)
  pub under : (prefix : PrefixValue) → IsPrefix grain prefix
      → map (indexed_line lines) (line_numbers_at kept (prefix_code grain prefix)) ≡ lines_under prefix lines
