-- A loser tree: what its nodes say of its leaves.
use Rattle.std.specs.Prelude.{ℕ, ◌≡◌, ◌+◌, ◌*◌, ◌^◌, ◌<◌, ◌≤◌, List, length, max, min, slice_index}

-- these are the nodes of a loser tree of these leaves. Leaf p is the node `length leaves + p` of a heap, which isn't stored,
-- and the children of node i are 2 i and 2 i + 1. `least` is the least leaf at or below each node. The two least leaves
-- below the children of a node meet there: the greater, which loses, stays, and the lesser goes on; node 0 has the
-- one that won all (Knuth, The Art of Computer Programming, volume 3, 5.4.1)
pub record HasLeaves (nodes leaves : List ℕ) : Type 0 where
  pub least : ℕ → ℕ
  pub shape : length nodes ≡ length leaves
  pub some : 1 ≤ length leaves
  pub few : length leaves < 2 ^ 32
  pub leaf : (place : ℕ) → place < length leaves → least (length leaves + place) ≡ slice_index leaves place
  pub meet : (node : ℕ) → 1 ≤ node → node < length leaves → least node ≡ min (least (2 * node)) (least (2 * node + 1))
  pub loser : (node : ℕ) → 1 ≤ node → node < length leaves → slice_index nodes node ≡ max (least (2 * node)) (least (2 * node + 1))
  pub winner : slice_index nodes 0 ≡ least 1
