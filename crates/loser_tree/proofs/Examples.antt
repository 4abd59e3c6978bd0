-- Worked examples of the definitions.
use Rattle.std.proofs.Common.{◌≡◌, ◌≢◌, ◌+◌, ◌*◌, ◌<◌, ◌≤◌, ℕ, List, [], ◌∷◌, zero, suc, min, max, get_or, refl, arith}
use Rattle.loser_tree.specs.LoserTree.{HasLeaves}
use Rattle.loser_tree.specs.Nodes.{number_below, HaveLeastNumbers, HasClimbed, IsNodeList}

-- the leaves 7, 3 and 5, of which the last two meet at node 2, and the lesser of these and 7 at node 1
abbrev leaves : List ℕ
leaves = 7 ∷ 3 ∷ 5 ∷ []

-- the least, and what lost at node 1 and at node 2
abbrev nodes : List ℕ
nodes = 3 ∷ 7 ∷ 5 ∷ []

-- the least leaf at or below each node
abbrev least : ℕ → ℕ
least node = get_or (0 ∷ 3 ∷ 3 ∷ 7 ∷ 3 ∷ 5 ∷ []) node 0

pub tree_of_three_leaves : HasLeaves nodes leaves
tree_of_three_leaves = record {
  least = least;
  shape = refl;
  some = omega arith;
  few = omega arith;
  leaf = leaf;
  meet = meet;
  loser = loser;
  winner = refl;
}
  where
    leaf : (place : ℕ) → place < 3 → least (3 + place) ≡ get_or leaves place 0
    leaf zero within = refl
    leaf (suc zero) within = refl
    leaf (suc (suc zero)) within = refl
    leaf (suc (suc (suc place))) within = absurd (omega arith)

    meet : (node : ℕ) → 1 ≤ node → node < 3 → least node ≡ min (least (2 * node)) (least (2 * node + 1))
    meet zero some below = absurd (omega arith)
    meet (suc zero) some below = refl
    meet (suc (suc zero)) some below = refl
    meet (suc (suc (suc node))) some below = absurd (omega arith)

    loser : (node : ℕ) → 1 ≤ node → node < 3 → get_or nodes node 0 ≡ max (least (2 * node)) (least (2 * node + 1))
    loser zero some below = absurd (omega arith)
    loser (suc zero) some below = refl
    loser (suc (suc zero)) some below = refl
    loser (suc (suc (suc node))) some below = absurd (omega arith)

-- one node for three leaves
pub node_is_missing : HasLeaves (3 ∷ []) leaves → ⊥
node_is_missing tree = omega (arith, tree.shape)

-- the lesser one was left in node 2, where 3 and 5 meet
pub lesser_is_left_in_a_node : HasLeaves (3 ∷ 7 ∷ 3 ∷ []) leaves → ⊥
lesser_is_left_in_a_node tree = omega (arith, tree.loser 2 (omega arith) (omega arith), tree.leaf 1 (omega arith), tree.leaf 2 (omega arith))

-- another leaf than the least is in node 0
pub another_leaf_comes_first : HasLeaves (5 ∷ 7 ∷ 3 ∷ []) leaves → ⊥
another_leaf_comes_first tree = omega (
  arith,
  tree.winner,
  tree.meet 1 (omega arith) (omega arith),
  tree.meet 2 (omega arith) (omega arith),
  tree.leaf 0 (omega arith),
  tree.leaf 1 (omega arith),
  tree.leaf 2 (omega arith),
)

-- a tree has a leaf
pub no_nodes : IsNodeList [] → ⊥
no_nodes list = omega (arith, list.some)

pub one_node : IsNodeList (7 ∷ [])
one_node = record { some = omega arith; few = omega arith }

-- nodes 3, 4 and 5 are the leaves 0, 1 and 2
pub number_of_a_leaf : number_below (9 ∷ 0 ∷ 1 ∷ []) 5 ≡ 2
number_of_a_leaf = refl

pub number_of_an_inner_node : number_below (9 ∷ 0 ∷ 1 ∷ []) 2 ≡ 1
number_of_an_inner_node = refl

pub least_numbers_below_nodes : HaveLeastNumbers 1 (9 ∷ 0 ∷ 1 ∷ [])
least_numbers_below_nodes zero behind some below = absurd (omega arith)
least_numbers_below_nodes (suc zero) behind some below = refl
least_numbers_below_nodes (suc (suc zero)) behind some below = refl
least_numbers_below_nodes (suc (suc (suc node))) behind some below = absurd (omega arith)

-- node 2 has the greater of the leaves 1 and 2
pub greater_number_below_a_node : HaveLeastNumbers 1 (9 ∷ 0 ∷ 2 ∷ []) → ⊥
greater_number_below_a_node are = omega (arith, are 2 (omega arith) (omega arith) (omega arith))

-- the same, but for the second leaf
abbrev climbing : ℕ → ℕ
climbing node = get_or (0 ∷ 3 ∷ 3 ∷ 7 ∷ 9 ∷ 5 ∷ []) node 0

-- 9 comes for 3, the second leaf: its parent, node 2, has what lost to 3
pub climb_at_the_leaf : HasClimbed (7 ∷ 9 ∷ 5 ∷ []) nodes 3 4 9
climb_at_the_leaf = record {
  least = climbing;
  shape = refl;
  carried = refl;
  leaf = leaf;
  meet = meet;
  loser = loser;
  past_parent = λ inner. refl;
  sibling = λ inner. refl;
  past_least = past_least;
}
  where
    leaf : (place : ℕ) → place < 3 → climbing (3 + place) ≡ get_or (7 ∷ 9 ∷ 5 ∷ []) place 0
    leaf zero within = refl
    leaf (suc zero) within = refl
    leaf (suc (suc zero)) within = refl
    leaf (suc (suc (suc place))) within = absurd (omega arith)

    meet : (other : ℕ) → 1 ≤ other → other < 3 → other ≢ 2 → climbing other ≡ min (climbing (2 * other)) (climbing (2 * other + 1))
    meet zero some below apart = absurd (omega arith)
    meet (suc zero) some below apart = refl
    meet (suc (suc zero)) some below apart = absurd (apart refl)
    meet (suc (suc (suc other))) some below apart = absurd (omega arith)

    loser : (other : ℕ) → 1 ≤ other → other < 3 → other ≢ 2 → get_or nodes other 0 ≡ max (climbing (2 * other)) (climbing (2 * other + 1))
    loser zero some below apart = absurd (omega arith)
    loser (suc zero) some below apart = refl
    loser (suc (suc zero)) some below apart = absurd (apart refl)
    loser (suc (suc (suc other))) some below apart = absurd (omega arith)

    past_least : (other : ℕ) → 1 ≤ other → other < 4 → 3 ≤ climbing other
    past_least zero some below = absurd (omega arith)
    past_least (suc zero) some below = omega arith
    past_least (suc (suc zero)) some below = omega arith
    past_least (suc (suc (suc zero))) some below = omega arith
    past_least (suc (suc (suc (suc other)))) some below = absurd (omega arith)

-- the parent has what won there, and not what lost
pub climb_past_a_winner : HasClimbed (7 ∷ 9 ∷ 5 ∷ []) (3 ∷ 7 ∷ 3 ∷ []) 3 4 9 → ⊥
climb_past_a_winner climb = omega (arith, climb.sibling (omega arith), climb.leaf 2 (omega arith))
