-- The codes of the prefixes that a prefix is strictly under.
use Rattle.std.specs.Prelude.{ℕ, ◌≡◌, ◌≢◌, ◌==◌, List, AllPairs}
use Rattle.std.specs.List.{list_any}
use Rattle.prefix_lattice.specs.{PrefixValue, IsPrefix, prefix_code, strictly_under}
use Rattle.prefix_lattice.specs.declared.grain.Grain.{Grain}

-- these are the codes of all prefixes of a grain that a prefix is strictly under, each once
pub record AreUpperCodes (grain : Grain) (prefix : PrefixValue) (codes : List ℕ) : Type 0 where
  pub distinct : AllPairs (λ code other. code ≢ other) codes
  pub members : (upper : PrefixValue) → IsPrefix grain upper
      → list_any (λ code. code == prefix_code grain upper) codes ≡ strictly_under prefix upper
