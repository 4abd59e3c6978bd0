-- A loser tree while it is built or changed, which no public contract cites.
use Rattle.std.specs.Prelude.{ℕ, ◌≡◌, ◌≢◌, ◌+◌, ◌-◌, ◌*◌, ◌/◌, ◌<◌, ◌≤◌, if◌then◌else◌, nat_lt, ◌^◌, List, length, max, min, slice_index}

-- what an inner node has, or the number of a leaf, from 0
abbrev pub number_below : List ℕ → ℕ → ℕ
number_below nodes node = if nat_lt node (length nodes) then slice_index nodes node else node - length nodes

-- the inner nodes from this one on have the least number of a leaf below them
abbrev pub HaveLeastNumbers : ℕ → List ℕ → Type 0
HaveLeastNumbers from nodes = (node : ℕ) → from ≤ node → 1 ≤ node → node < length nodes
    → slice_index nodes node ≡ min (number_below nodes (2 * node)) (number_below nodes (2 * node + 1))

-- these are the leaves but for the way from one of them to the root, which was the least, `past`. On this way up a node was
-- reached, and `word` is the least leaf there. Its parent still has the one that lost to the past least
pub record HasClimbed (leaves nodes : List ℕ) (past node word : ℕ) : Type 0 where
  pub least : ℕ → ℕ
  pub shape : length nodes ≡ length leaves
  pub carried : least node ≡ word
  pub leaf : (place : ℕ) → place < length leaves → least (length leaves + place) ≡ slice_index leaves place
  pub meet : (other : ℕ) → 1 ≤ other → other < length leaves → other ≢ node / 2 → least other ≡ min (least (2 * other)) (least (2 * other + 1))
  pub loser : (other : ℕ) → 1 ≤ other → other < length leaves → other ≢ node / 2
      → slice_index nodes other ≡ max (least (2 * other)) (least (2 * other + 1))
  pub past_parent : 2 ≤ node → least (node / 2) ≡ past
  pub sibling : 2 ≤ node → slice_index nodes (node / 2) ≡ least (4 * (node / 2) + 1 - node)
  pub past_least : (other : ℕ) → 1 ≤ other → other < node → past ≤ least other

-- as many nodes as a tree can have, one for each leaf
pub record IsNodeList (nodes : List ℕ) : Type 0 where
  pub some : 1 ≤ length nodes
  pub few : length nodes < 2 ^ 32
