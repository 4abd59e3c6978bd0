-- The nodes of a loser tree: its least leaf, and the sum of its words.
use Rattle.std.proofs.Common.{◌≡◌, ℕ, ◌+◌, ◌*◌, ◌/◌, ◌-◌, ◌<◌, ◌≤◌, zero, suc, List, [], ◌∷◌, length, get_or, sum}
use Rattle.std.proofs.Common.{min, sym, ap, refl, ◌∙◌, subst, ⊎_elim, arith, All, Contains}
use Rattle.std.proofs.lemmas.Bool.{cases_lt, cases_eq}
use Rattle.std.proofs.lemmas.List.{get_or_default}
use Rattle.std.proofs.lemmas.List.Sums.{sum_by-cons}
use Rattle.loser_tree.specs.LoserTree.{HasLeaves}

-- the least leaf of all is at most the least below each node
pub loser_root_is_below_nodes : (nodes leaves : List ℕ) (tree : HasLeaves nodes leaves) (steps node : ℕ) → node ≤ steps → 1 ≤ node
    → node < 2 * length leaves → tree.least 1 ≤ tree.least node
loser_root_is_below_nodes nodes leaves tree zero node small inner within = absurd (omega arith)
loser_root_is_below_nodes nodes leaves tree (suc steps) node small inner within =
    ⊎_elim
    (λ (root : node ≡ 1). subst (λ i. tree.least 1 ≤ tree.least i) (sym root) (omega arith))
    (λ (lower : node ≡ 1 → ⊥).
    let above : tree.least 1 ≤ tree.least (node / 2) = loser_root_is_below_nodes nodes leaves tree steps (node / 2) (omega arith) (omega arith)
    (omega arith) in
    let lesser : tree.least (node / 2) ≡ min (tree.least (2 * (node / 2))) (tree.least (2 * (node / 2) + 1)) = tree.meet (node / 2)
    (omega arith) (omega arith) in
    ⊎_elim
    (λ (even : 2 * (node / 2) ≡ node). subst (λ i. tree.least 1 ≤ tree.least i) even (omega arith))
    (λ (odd : 2 * (node / 2) ≡ node → ⊥). let last : 2 * (node / 2) + 1 ≡ node = omega arith in subst
    (λ i. tree.least 1 ≤ tree.least i) last (omega arith))
    (cases_eq (2 * (node / 2)) node))
    (cases_eq node 1)

-- the least below each node is some leaf
loser_node_has_some_leaf : (nodes leaves : List ℕ) (tree : HasLeaves nodes leaves) (steps node : ℕ) → 2 * length leaves - node ≤ steps → 1 ≤ node
    → node < 2 * length leaves → (place : ℕ) × (place < length leaves) × (get_or leaves place 0 ≡ tree.least node)
loser_node_has_some_leaf nodes leaves tree zero node small inner within = absurd (omega arith)
loser_node_has_some_leaf nodes leaves tree (suc steps) node small inner within =
    ⊎_elim
    (λ (upper : node < length leaves).
    let lesser : tree.least node ≡ min (tree.least (2 * node)) (tree.least (2 * node + 1)) = tree.meet node inner upper in
    ⊎_elim
    (λ (less : tree.least (2 * node) < tree.least (2 * node + 1)).
    let below = loser_node_has_some_leaf nodes leaves tree steps (2 * node) (omega arith) (omega arith) (omega arith) in
    (below.0, below.1, below.2 ∙ (let same : tree.least (2 * node) ≡ tree.least node = omega arith in same)))
    (λ (more : tree.least (2 * node + 1) ≤ tree.least (2 * node)).
    let below = loser_node_has_some_leaf nodes leaves tree steps (2 * node + 1) (omega arith) (omega arith) (omega arith) in
    (below.0, below.1, below.2 ∙ (let same : tree.least (2 * node + 1) ≡ tree.least node = omega arith in same)))
    (cases_lt (tree.least (2 * node)) (tree.least (2 * node + 1))))
    (λ (leaf : length leaves ≤ node).
    let at : length leaves + (node - length leaves) ≡ node = omega arith in
    (node - length leaves, omega arith, sym (tree.leaf (node - length leaves) (omega arith)) ∙ ap tree.least at))
    (cases_lt node (length leaves))

-- node 0 has a leaf
pub first_loser_node_is_leaf : (nodes leaves : List ℕ) (first : ℕ) → first ≡ get_or nodes 0 first → HasLeaves nodes leaves → Contains leaves first
first_loser_node_is_leaf nodes leaves first read tree =
    let some : 1 ≤ length leaves = tree.some in
    let is : first ≡ tree.least 1 = read ∙ get_or_default nodes 0 first 0 (omega (arith, tree.shape)) ∙ tree.winner in
    let found = loser_node_has_some_leaf nodes leaves tree (2 * length leaves) 1 (omega arith) (omega arith) (omega arith) in
    (found.0, found.1, get_or_default leaves found.0 first 0 found.1 ∙ found.2 ∙ sym is)

-- which is at most each leaf
pub first_loser_node_is_least : (nodes leaves : List ℕ) (first : ℕ) → first ≡ get_or nodes 0 first → HasLeaves nodes leaves
    → All (λ leaf. first ≤ leaf) leaves
first_loser_node_is_least nodes leaves first read tree place d within =
    let is : first ≡ tree.least 1 = read ∙ get_or_default nodes 0 first 0 (omega (arith, tree.shape)) ∙ tree.winner in
    let below = loser_root_is_below_nodes nodes leaves tree (length leaves + place) (length leaves + place) (omega arith) (omega arith) (omega arith) in
    omega (arith, is, below, tree.leaf place within, get_or_default leaves place d 0 within)

-- so a leaf that is at most each other is in node 0
pub least_leaf_is_first_loser_node : (nodes leaves : List ℕ) (place : ℕ) → place < length leaves → HasLeaves nodes leaves
    → All (λ leaf. get_or leaves place 0 ≤ leaf) leaves → get_or leaves place 0 ≡ get_or nodes 0 0
least_leaf_is_first_loser_node nodes leaves place within tree least =
    let some : 1 ≤ length leaves = tree.some in
    let found = loser_node_has_some_leaf nodes leaves tree (2 * length leaves) 1 (omega arith) (omega arith) (omega arith) in
    let below = loser_root_is_below_nodes nodes leaves tree (length leaves + place) (length leaves + place) (omega arith) (omega arith) (omega arith) in
    omega (arith, tree.winner, below, tree.leaf place within, found.2, least found.0 0 found.1)

-- the sum of what a function has of the numbers below this one
abbrev sum_of_nodes : (ℕ → ℕ) → ℕ → ℕ
sum_of_nodes f zero = 0
sum_of_nodes f (suc n) = sum_of_nodes f n + f n

sum_of_nodes-first : (f : ℕ → ℕ) (n : ℕ) → sum_of_nodes f (suc n) ≡ f 0 + sum_of_nodes (λ i. f (suc i)) n
sum_of_nodes-first f zero = omega arith
sum_of_nodes-first f (suc n) = omega (arith, sum_of_nodes-first f n)

sum_of_nodes-list : (words : List ℕ) → sum words ≡ sum_of_nodes (λ i. get_or words i 0) (length words)
sum_of_nodes-list [] = refl
sum_of_nodes-list (word ∷ rest) = omega (
  arith,
  sum_by-cons (λ (x : ℕ). x) word rest,
  sum_of_nodes-list rest,
  sum_of_nodes-first (λ i. get_or (word ∷ rest) i 0) (length rest),
)

sum_of_nodes-split : (f : ℕ → ℕ) (m n : ℕ) → sum_of_nodes f (m + n) ≡ sum_of_nodes f m + sum_of_nodes (λ i. f (m + i)) n
sum_of_nodes-split f m zero = ap (sum_of_nodes f) (let e : m + 0 ≡ m = omega arith in e)
    ∙ (let e : sum_of_nodes f m ≡ sum_of_nodes f m + 0 = omega arith in e)
sum_of_nodes-split f m (suc n) = ap (sum_of_nodes f) (let e : m + suc n ≡ suc (m + n) = omega arith in e)
    ∙ (let e : sum_of_nodes f (m + n) + f (m + n) ≡ sum_of_nodes f m + (sum_of_nodes (λ i. f (m + i)) n + f (m + n)) = omega (
      arith,
      sum_of_nodes-split f m n,
    ) in e)

sum_of_nodes-same : (f g : ℕ → ℕ) (n : ℕ) → ((i : ℕ) → i < n → f i ≡ g i) → sum_of_nodes f n ≡ sum_of_nodes g n
sum_of_nodes-same f g zero same = refl
sum_of_nodes-same f g (suc n) same = omega (arith, sum_of_nodes-same f g n (λ i within. same i (omega arith)), same n (omega arith))

-- the words in the first nodes and the least below them are the least below the children of these
sum_of_loser_nodes : (nodes leaves : List ℕ) (tree : HasLeaves nodes leaves) (n : ℕ) → n < length leaves
    → sum_of_nodes (λ i. get_or nodes i 0) (suc n) + sum_of_nodes (λ i. tree.least (suc i)) n ≡ sum_of_nodes (λ i. tree.least (suc i)) (suc (2 * n))
sum_of_loser_nodes nodes leaves tree zero within = omega (arith, tree.winner)
sum_of_loser_nodes nodes leaves tree (suc n) within =
    let g = λ (i : ℕ). tree.least (suc i) in
    let twice : suc (2 * suc n) ≡ suc (suc (suc (2 * n))) = omega arith in
    let left : tree.least (2 * suc n) ≡ tree.least (suc (suc (2 * n))) = ap tree.least (let e : 2 * suc n ≡ suc (suc (2 * n)) = omega arith in e) in
    let right : tree.least (2 * suc n + 1) ≡ tree.least (suc (suc (suc (2 * n)))) = ap tree.least
    (let e : 2 * suc n + 1 ≡ suc (suc (suc (2 * n))) = omega arith in e) in
    omega (
      arith,
      ap (sum_of_nodes g) twice,
      sum_of_loser_nodes nodes leaves tree n (omega arith),
      tree.meet (suc n) (omega arith) within,
      tree.loser (suc n) (omega arith) within,
      left,
      right,
    )

-- the nodes have the words of the leaves, in another order, so the same sum
pub sum_of_loser_tree_nodes : (nodes leaves : List ℕ) → HasLeaves nodes leaves → sum nodes ≡ sum leaves
sum_of_loser_tree_nodes nodes leaves tree =
    let count = length leaves in
    let some : 1 ≤ count = tree.some in
    let g = λ (i : ℕ). tree.least (suc i) in
    let all : suc (count - 1) ≡ count = omega arith in
    let twice : suc (2 * (count - 1)) ≡ (count - 1) + count = omega arith in
    let leaf : (i : ℕ) → i < count → g ((count - 1) + i) ≡ get_or leaves i 0 = λ i within.
    ap tree.least (let e : suc ((count - 1) + i) ≡ count + i = omega arith in e) ∙ tree.leaf i within in
    omega (
      arith,
      sum_of_nodes-list nodes,
      sum_of_nodes-list leaves,
      ap (sum_of_nodes (λ i. get_or nodes i 0)) tree.shape,
      ap (sum_of_nodes (λ i. get_or nodes i 0)) all,
      sum_of_loser_nodes nodes leaves tree (count - 1) (omega arith),
      ap (sum_of_nodes g) twice,
      sum_of_nodes-split g (count - 1) count,
      sum_of_nodes-same (λ i. g ((count - 1) + i)) (λ i. get_or leaves i 0) count leaf,
    )
