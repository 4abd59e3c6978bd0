-- A number for each prefix of a line.
use Rattle.std.specs.Prelude.{ℕ, ◌≡◌, ◌≢◌, ◌^◌, ◌<◌, nat_eq, List, map, All, AllPairs}
use Rattle.std.specs.List.{list_any}
use Rattle.prefix_lattice.specs.{PrefixValue, IsPrefix, finest_grain, prefix_key, prefix_code}
use Rattle.prefix_lattice.specs.declared.grain.Grain.{Grain}

-- the code of a line's prefix: each is a prefix of the finest grain, whatever the grain of the report
abbrev pub line_code : PrefixValue → ℕ
line_code prefix = prefix_code finest_grain prefix

-- these codes are those of the prefixes of lines, which are of a grain
pub record AreLineCodes (grain : Grain) (lines : List PrefixValue) (codes : List ℕ) : Type 0 where
  pub prefixes : All (IsPrefix grain) lines
  pub small : All (λ line. prefix_key line < 2 ^ 64) lines
  pub coded : (code : ℕ) → list_any (nat_eq code) codes ≡ list_any (λ line. nat_eq code (line_code line)) lines

-- no two lines have the same prefix, and the code of each stands at its place
pub record ArePlaced (lines : List PrefixValue) (codes : List ℕ) : Type 0 where
  pub apart : AllPairs (λ line other. line ≢ other) lines
  pub at_places : codes ≡ map line_code lines
