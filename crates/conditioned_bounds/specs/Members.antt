-- Prefixes that are found by their codes, and the nodes that have one of them.
use Rattle.std.specs.Prelude.{ℕ, ◌≡◌, ◌<◌, true, List, length, All, Contains}
use Rattle.std.specs.Ordering.{nat_cmp}
use Rattle.std.specs.BTreeSet.{BTreeSet, contains}
use Rattle.prefix_lattice.specs.{NodeValue, PrefixValue, IsPrefix, node_of_prefix, prefix_code, finest_grain}

-- an index has fewer lines than this, 2^24
abbrev pub member_limit : ℕ
member_limit = 16777216

-- the codes are those of these members, the nodes have all of theirs, both by the finest grain, and there are fewer
-- than 2^24 members
pub record AreMembers (members : List PrefixValue) (codes : BTreeSet ℕ) (at : List NodeValue) : Type 0 where
  pub few : length members < member_limit
  pub prefixes : All (IsPrefix finest_grain) members
  pub coded : (prefix : PrefixValue) → Contains members prefix
      → contains nat_cmp codes (prefix_code finest_grain prefix) ≡ true
  pub found : (prefix : PrefixValue) → IsPrefix finest_grain prefix
      → contains nat_cmp codes (prefix_code finest_grain prefix) ≡ true
      → Contains members prefix
  pub nodes : All (λ prefix. Contains at (node_of_prefix finest_grain prefix)) members
  pub finest : All (λ node. node.grain ≡ finest_grain) at
