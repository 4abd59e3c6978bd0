-- The way of a word from a leaf to the root, node by node.
use Rattle.std.proofs.Common.{◌≡◌, ◌≢◌, ℕ, ◌+◌, ◌*◌, ◌/◌, ◌-◌, ◌^◌, ◌<◌, ◌≤◌, List, length, get_or, set, cond, eqb, refl}
use Rattle.std.proofs.Common.{min, max, sym, ap, ◌∙◌, subst, ⊎_elim, arith, length-set, get_or-set_same, get_or-set_other}
use Rattle.std.proofs.lemmas.Bool.{cases_eq, cond-true, cond-false, eq-eqb, ne_eqb}
use Rattle.std.proofs.Math.Nat.{min_comm, max_comm}
use Rattle.loser_tree.specs.LoserTree.{HasLeaves}
use Rattle.loser_tree.specs.Nodes.{HasClimbed}
use Rattle.loser_tree.proofs.LoserNodeLemmas.{loser_root_is_below_nodes}

-- the words of nodes, but for one node this word
abbrev with_node : (ℕ → ℕ) → ℕ → ℕ → ℕ → ℕ
with_node words node word at = cond (eqb at node) word (words at)

with_node-same : (words : ℕ → ℕ) (node word : ℕ) → with_node words node word node ≡ word
with_node-same words node word = cond-true (eqb node node) word (words node) (eq-eqb node node refl)

with_node-other : (words : ℕ → ℕ) (node word at : ℕ) → at ≢ node → with_node words node word at ≡ words at
with_node-other words node word at apart = cond-false (eqb at node) word (words at) (ne_eqb at node apart)

-- two nodes of which none is this one have the lesser and the greater word as before
with_node-others : (words : ℕ → ℕ) (node word first second : ℕ) → first ≢ node → second ≢ node
    → (min (words first) (words second) ≡ min (with_node words node word first) (with_node words node word second))
    × (max (words first) (words second) ≡ max (with_node words node word first) (with_node words node word second))
with_node-others words node word first second apart other =
    let a = with_node-other words node word first apart in
    let b = with_node-other words node word second other in (
      ap (λ n. min n (words second)) (sym a) ∙ ap (λ n. min (with_node words node word first) n) (sym b),
      ap (λ n. max n (words second)) (sym a) ∙ ap (λ n. max (with_node words node word first) n) (sym b),
    )

-- a node and its sibling are the children of the node that is half of it
sibling_nodes_are_children : (words : ℕ → ℕ) (node parent sibling : ℕ) → parent ≡ node / 2 → sibling ≡ 4 * parent + 1 - node
    → (min (words (2 * parent)) (words (2 * parent + 1)) ≡ min (words node) (words sibling))
    × (max (words (2 * parent)) (words (2 * parent + 1)) ≡ max (words node) (words sibling))
sibling_nodes_are_children words node parent sibling is_parent is_sibling =
    ⊎_elim
    (λ (even : 2 * parent ≡ node). let next : 2 * parent + 1 ≡ sibling = omega arith in (
      ap (λ n. min (words n) (words (2 * parent + 1))) even ∙ ap (λ n. min (words node) (words n)) next,
      ap (λ n. max (words n) (words (2 * parent + 1))) even ∙ ap (λ n. max (words node) (words n)) next,
    ))
    (λ (odd : 2 * parent ≡ node → ⊥). let last : 2 * parent + 1 ≡ node = omega arith in let first : 2 * parent ≡ sibling = omega arith in (
      ap (λ n. min (words n) (words (2 * parent + 1))) first ∙ ap (λ n. min (words sibling) (words n)) last ∙ min_comm (words sibling) (words node),
      ap (λ n. max (words n) (words (2 * parent + 1))) first ∙ ap (λ n. max (words sibling) (words n)) last ∙ max_comm (words sibling) (words node),
    ))
    (cases_eq (2 * parent) node)

-- where a node has the least word of all, its parent has it too, and its sibling lost there
past_least_node_won : (words : ℕ → ℕ) (node past : ℕ) → words node ≡ past → past ≤ words (4 * (node / 2) + 1 - node)
    → (min (words (2 * (node / 2))) (words (2 * (node / 2) + 1)) ≡ past)
    × (max (words (2 * (node / 2))) (words (2 * (node / 2) + 1)) ≡ words (4 * (node / 2) + 1 - node))
past_least_node_won words node past is below =
    let both = sibling_nodes_are_children words node (node / 2) (4 * (node / 2) + 1 - node) refl refl in
    (omega (arith, both.0), omega (arith, both.1))

-- a climb begins with a word in place of the least leaf
pub climb_from_leaf_node : (nodes leaves : List ℕ) (place word : ℕ) → place < length leaves → HasLeaves nodes leaves
    → get_or leaves place 0 ≡ get_or nodes 0 0
    → HasClimbed (set leaves place word) nodes (get_or nodes 0 0) (length nodes + place) word
climb_from_leaf_node nodes leaves place word within tree is =
    let shape : length nodes ≡ length leaves = tree.shape in
    let same : length (set leaves place word) ≡ length leaves = length-set leaves place word in
    let node = length nodes + place in
    let past = get_or nodes 0 0 in
    let sibling = 4 * (node / 2) + 1 - node in
    let least = with_node tree.least node word in
    let here : tree.least node ≡ past = ap (λ n. tree.least (n + place)) shape ∙ tree.leaf place within ∙ is in
    let lower : (at : ℕ) → 1 ≤ at → at < 2 * length leaves → past ≤ tree.least at = λ at inner inside.
    omega (arith, tree.winner, loser_root_is_below_nodes nodes leaves tree at at (omega arith) inner inside) in
    record {
      least = least;
      shape = shape ∙ sym same;
      carried = with_node-same tree.least node word;
      leaf = λ at inside. ap (λ n. least (n + at)) same ∙ ⊎_elim
          (λ (this : at ≡ place). ap (λ n. least (n + at)) (sym shape) ∙ ap (λ n. least (length nodes + n)) this ∙ with_node-same tree.least node word
          ∙ sym (ap (λ n. get_or (set leaves place word) n 0) this ∙ get_or-set_same leaves place word 0 within))
          (λ (apart : at ≢ place). with_node-other tree.least node word (length leaves + at) (omega arith) ∙ tree.leaf at (omega arith)
          ∙ sym (get_or-set_other leaves place at word 0 apart))
          (cases_eq at place);
      meet = λ other inner inside apart. with_node-other tree.least node word other (omega arith) ∙ tree.meet other inner (omega arith)
          ∙ (with_node-others tree.least node word (2 * other) (2 * other + 1) (omega arith) (omega arith)).0;
      loser = λ other inner inside apart. tree.loser other inner (omega arith)
          ∙ (with_node-others tree.least node word (2 * other) (2 * other + 1) (omega arith) (omega arith)).1;
      past_parent = λ inner. with_node-other tree.least node word (node / 2) (omega arith) ∙ tree.meet (node / 2) (omega arith) (omega arith)
          ∙ (past_least_node_won tree.least node past here (lower sibling (omega arith) (omega arith))).0;
      sibling = λ inner. tree.loser (node / 2) (omega arith) (omega arith)
          ∙ (past_least_node_won tree.least node past here (lower sibling (omega arith) (omega arith))).1
          ∙ sym (with_node-other tree.least node word sibling (omega arith));
      past_least = λ other inner before. subst (λ n. past ≤ n) (sym (with_node-other tree.least node word other (omega arith)))
          (lower other inner (omega arith));
    }

-- and goes on to the parent with the lesser one of two words, and leaves the greater there
climb_to_parent_node : (leaves nodes : List ℕ) (past node word : ℕ) → 2 ≤ node → node < 2 * length leaves → HasClimbed leaves nodes past node word
    → HasClimbed leaves (set nodes (node / 2) (max word (get_or nodes (node / 2) 0))) past (node / 2) (min word (get_or nodes (node / 2) 0))
climb_to_parent_node leaves nodes past node word inner within climb =
    let shape : length nodes ≡ length leaves = climb.shape in
    let parent = node / 2 in
    let other_word = get_or nodes (node / 2) 0 in
    let lesser = min word (get_or nodes (node / 2) 0) in
    let greater = max word (get_or nodes (node / 2) 0) in
    let least = with_node climb.least (node / 2) lesser in
    let after = set nodes (node / 2) greater in
    let sibling_word : other_word ≡ climb.least (4 * (node / 2) + 1 - node) = climb.sibling inner in
    let both = sibling_nodes_are_children climb.least node (node / 2) (4 * (node / 2) + 1 - node) refl refl in
    let lesser_met : lesser ≡ min (climb.least (2 * (node / 2))) (climb.least (2 * (node / 2) + 1)) = omega (
      arith,
      both.0,
      climb.carried,
      sibling_word,
    ) in
    let greater_met : greater ≡ max (climb.least (2 * (node / 2))) (climb.least (2 * (node / 2) + 1)) = omega (
      arith,
      both.1,
      climb.carried,
      sibling_word,
    ) in
    let above = 4 * (node / 2 / 2) + 1 - node / 2 in
    let won = λ (lower : 2 ≤ node / 2). past_least_node_won climb.least (node / 2) past (climb.past_parent inner)
    (climb.past_least above (omega arith) (omega arith)) in
    record {
      least = least;
      shape = length-set nodes (node / 2) greater ∙ shape;
      carried = with_node-same climb.least (node / 2) lesser;
      leaf = λ place inside. with_node-other climb.least (node / 2) lesser (length leaves + place) (omega arith) ∙ climb.leaf place inside;
      meet = λ other some inside apart. ⊎_elim
          (λ (this : other ≡ node / 2). subst (λ n. least n ≡ min (least (2 * n)) (least (2 * n + 1))) (sym this)
          (with_node-same climb.least (node / 2) lesser
          ∙ lesser_met
          ∙ (with_node-others climb.least (node / 2) lesser (2 * (node / 2)) (2 * (node / 2) + 1) (omega arith) (omega arith)).0))
          (λ (differs : other ≢ node / 2). with_node-other climb.least (node / 2) lesser other differs ∙ climb.meet other some inside differs
          ∙ (with_node-others climb.least (node / 2) lesser (2 * other) (2 * other + 1) (omega arith) (omega arith)).0)
          (cases_eq other (node / 2));
      loser = λ other some inside apart. ⊎_elim
          (λ (this : other ≡ node / 2). subst (λ n. get_or after n 0 ≡ max (least (2 * n)) (least (2 * n + 1))) (sym this)
          (get_or-set_same nodes (node / 2) greater 0 (omega arith)
          ∙ greater_met
          ∙ (with_node-others climb.least (node / 2) lesser (2 * (node / 2)) (2 * (node / 2) + 1) (omega arith) (omega arith)).1))
          (λ (differs : other ≢ node / 2). get_or-set_other nodes (node / 2) other greater 0 differs ∙ climb.loser other some inside differs
          ∙ (with_node-others climb.least (node / 2) lesser (2 * other) (2 * other + 1) (omega arith) (omega arith)).1)
          (cases_eq other (node / 2));
      past_parent = λ lower. with_node-other climb.least (node / 2) lesser (node / 2 / 2) (omega arith)
          ∙ climb.meet (node / 2 / 2) (omega arith) (omega arith) (omega arith) ∙ (won lower).0;
      sibling = λ lower. get_or-set_other nodes (node / 2) (node / 2 / 2) greater 0 (omega arith)
          ∙ climb.loser (node / 2 / 2) (omega arith) (omega arith) (omega arith) ∙ (won lower).1
          ∙ sym (with_node-other climb.least (node / 2) lesser above (omega arith));
      past_least = λ other some before. subst (λ n. past ≤ n) (sym (with_node-other climb.least (node / 2) lesser other (omega arith)))
          (climb.past_least other some (omega arith));
    }

-- the same step, whatever wrote the two words
pub climb_goes_to_parent_node : (leaves nodes after : List ℕ) (past node word lesser : ℕ) → 2 ≤ node → node < 2 * length nodes
    → HasClimbed leaves nodes past node word
    → after ≡ set nodes (node / 2) (max word (get_or nodes (node / 2) 0))
    → lesser ≡ min word (get_or nodes (node / 2) 0)
    → HasClimbed leaves after past (node / 2) lesser
climb_goes_to_parent_node leaves nodes after past node word lesser inner within climb written carried =
    subst (λ l. HasClimbed leaves l past (node / 2) lesser) (sym written)
    (subst (λ n. HasClimbed leaves (set nodes (node / 2) (max word (get_or nodes (node / 2) 0))) past (node / 2) n) (sym carried)
    (climb_to_parent_node leaves nodes past node word inner (omega (arith, climb.shape)) climb))

-- at the root the word is the least of all
pub climb_ends_at_root_node : (leaves nodes : List ℕ) (past word : ℕ) → 1 ≤ length leaves → length leaves < 2 ^ 32 → HasClimbed leaves nodes past 1 word
    → HasLeaves (set nodes 0 word) leaves
climb_ends_at_root_node leaves nodes past word some few climb =
    let shape : length nodes ≡ length leaves = climb.shape in
    record {
      least = climb.least;
      shape = length-set nodes 0 word ∙ shape;
      some = some;
      few = few;
      leaf = climb.leaf;
      meet = λ node inner within. climb.meet node inner within (omega arith);
      loser = λ node inner within. get_or-set_other nodes 0 node word 0 (omega arith) ∙ climb.loser node inner within (omega arith);
      winner = get_or-set_same nodes 0 word 0 (omega arith) ∙ sym climb.carried;
    }

-- nodes of which one was set are as many
pub set_node_keeps_length : (nodes after : List ℕ) (node word : ℕ) → after ≡ set nodes node word → length after ≡ length nodes
set_node_keeps_length nodes after node word written = ap length written ∙ length-set nodes node word

-- three levels up, parent by parent
pub climb_goes_up_three_levels : (leaves nodes first second third : List ℕ) (past node word lesser least last : ℕ) → 8 ≤ node → node < 2 * length nodes
    → HasClimbed leaves nodes past node word
    → first ≡ set nodes (node / 2) (max word (get_or nodes (node / 2) 0)) → lesser ≡ min word (get_or nodes (node / 2) 0)
    → second ≡ set first (node / 4) (max lesser (get_or first (node / 4) 0)) → least ≡ min lesser (get_or first (node / 4) 0)
    → third ≡ set second (node / 8) (max least (get_or second (node / 8) 0)) → last ≡ min least (get_or second (node / 8) 0)
    → HasClimbed leaves third past (node / 8) last
climb_goes_up_three_levels leaves nodes first second third past node word lesser least last inner within climb one is_lesser two is_least three is_last =
    let half : node / 2 / 2 ≡ node / 4 = omega arith in
    let quarter : node / 4 / 2 ≡ node / 8 = omega arith in
    let at_first : HasClimbed leaves first past (node / 2) lesser =
    climb_goes_to_parent_node leaves nodes first past node word lesser (omega arith) within climb one is_lesser in
    let as_long : length first ≡ length nodes = set_node_keeps_length nodes first (node / 2) (max word (get_or nodes (node / 2) 0)) one in
    let at_second : HasClimbed leaves second past (node / 4) least =
    subst (λ n. HasClimbed leaves second past n least) half
    (climb_goes_to_parent_node leaves first second past (node / 2) lesser least (omega arith) (omega (arith, as_long)) at_first
    (two ∙ ap (λ n. set first n (max lesser (get_or first n 0))) (sym half)) (is_least ∙ ap (λ n. min lesser (get_or first n 0)) (sym half))) in
    let as_long_still : length second ≡ length first = set_node_keeps_length first second (node / 4) (max lesser (get_or first (node / 4) 0)) two in
    subst (λ n. HasClimbed leaves third past n last) quarter
    (climb_goes_to_parent_node leaves second third past (node / 4) least last (omega arith) (omega (arith, as_long, as_long_still)) at_second
    (three ∙ ap (λ n. set second n (max least (get_or second n 0))) (sym quarter)) (is_last ∙ ap (λ n. min least (get_or second n 0)) (sym quarter)))

-- the way of a word from the leaf at a place of these nodes is done up to this node, with the nodes and the least word as they are now
pub record ClimbIsAt (before : List ℕ) (place word : ℕ) (nodes : List ℕ) (node least : ℕ) : Type 0 where
  pub inner : 1 ≤ node
  pub within : node < 2 * length nodes
  pub shape : length nodes ≡ length before
  pub climbed : (leaves : List ℕ) → HasLeaves before leaves → get_or leaves place 0 ≡ get_or before 0 0
      → HasClimbed (set leaves place word) nodes (get_or before 0 0) node least
