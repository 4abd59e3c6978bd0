-- The nodes of a tree whose leaves are their indices.
use Rattle.std.proofs.Common.{◌≡◌, ◌≢◌, ℕ, ◌+◌, ◌*◌, ◌-◌, ◌^◌, ◌<◌, ◌≤◌, List, length, get_or, set, cond, ltb}
use Rattle.std.proofs.Common.{min, max, sym, ap, ◌∙◌, subst, ⊎_elim, arith, length-set, get_or-set_same, get_or-set_other}
use Rattle.std.specs.List.{range_with_len}
use Rattle.std.proofs.lemmas.Bool.{cases_eq, cond-true, cond-false, lt-ltb, le-ltb}
use Rattle.std.proofs.lemmas.List.FromFn.{length-range_with_len, get_or-range_with_len}
use Rattle.loser_tree.specs.LoserTree.{HasLeaves}
use Rattle.loser_tree.specs.Nodes.{number_below, HaveLeastNumbers}

-- the number below a node depends on that node alone
pub number_below-same_node : (nodes after : List ℕ) (node : ℕ) → length after ≡ length nodes → get_or after node 0 ≡ get_or nodes node 0
    → number_below after node ≡ number_below nodes node
number_below-same_node nodes after node long same =
    ap (λ n. cond (ltb node n) (get_or after node 0) (node - n)) long
    ∙ ap (λ n. cond (ltb node (length nodes)) n (node - length nodes)) same

number_below-other_node : (nodes : List ℕ) (written word node : ℕ) → node ≢ written → number_below (set nodes written word) node ≡ number_below nodes node
number_below-other_node nodes written word node apart =
    number_below-same_node nodes (set nodes written word) node (length-set nodes written word) (get_or-set_other nodes written node word 0 apart)

-- so does the lesser of two, where the nodes were not written
lesser_number_below_nodes : (nodes : List ℕ) (written word first second : ℕ) → first ≢ written → second ≢ written
    → min (number_below nodes first) (number_below nodes second)
    ≡ min (number_below (set nodes written word) first) (number_below (set nodes written word) second)
lesser_number_below_nodes nodes written word first second apart other =
    ap (λ n. min n (number_below nodes second)) (sym (number_below-other_node nodes written word first apart))
    ∙ ap (λ n. min (number_below (set nodes written word) first) n) (sym (number_below-other_node nodes written word second other))

-- one more node has the least number below it
pub HaveLeastNumbers-one_more_node : (nodes : List ℕ) (node word : ℕ) → 1 ≤ node → node < length nodes
    → word ≡ min (number_below nodes (2 * node)) (number_below nodes (2 * node + 1))
    → HaveLeastNumbers (node + 1) nodes → HaveLeastNumbers node (set nodes node word)
HaveLeastNumbers-one_more_node nodes node word inner within is behind other at_least some below =
    let same : length (set nodes node word) ≡ length nodes = length-set nodes node word in
    let rest = lesser_number_below_nodes nodes node word (2 * other) (2 * other + 1) (omega arith) (omega arith) in
    ⊎_elim
    (λ (this : other ≡ node). ap (λ n. get_or (set nodes node word) n 0) this ∙ get_or-set_same nodes node word 0 within ∙ is
    ∙ sym (ap (λ n. min (number_below nodes (2 * n)) (number_below nodes (2 * n + 1))) this) ∙ rest)
    (λ (apart : other ≢ node). get_or-set_other nodes node other word 0 apart ∙ behind other (omega arith) some (omega arith) ∙ rest)
    (cases_eq other node)

-- part of the way: the inner nodes before this one have the greater of their children's numbers, the others still the least below them
pub record NodesHaveLosersBefore (node : ℕ) (before nodes : List ℕ) : Type 0 where
  pub shape : length nodes ≡ length before
  pub winner : get_or nodes 0 0 ≡ number_below before 1
  pub kept : (other : ℕ) → node ≤ other → get_or nodes other 0 ≡ get_or before other 0
  pub losers : (other : ℕ) → 1 ≤ other → other < node
      → get_or nodes other 0 ≡ max (number_below before (2 * other)) (number_below before (2 * other + 1))

pub NodesHaveLosersBefore-first_node : (nodes : List ℕ) (word : ℕ) → 1 ≤ length nodes → word ≡ number_below nodes 1
    → NodesHaveLosersBefore 1 nodes (set nodes 0 word)
NodesHaveLosersBefore-first_node nodes word some is = record {
  shape = length-set nodes 0 word;
  winner = get_or-set_same nodes 0 word 0 (omega arith) ∙ is;
  kept = λ other behind. get_or-set_other nodes 0 other word 0 (omega arith);
  losers = λ other inner within. absurd (omega arith);
}

pub NodesHaveLosersBefore-next_node : (before nodes : List ℕ) (node word : ℕ) → 1 ≤ node → node < length nodes → NodesHaveLosersBefore node before nodes
    → word ≡ max (number_below nodes (2 * node)) (number_below nodes (2 * node + 1))
    → NodesHaveLosersBefore (node + 1) before (set nodes node word)
NodesHaveLosersBefore-next_node before nodes node word inner within have is =
    let child : (other : ℕ) → node ≤ other → number_below nodes other ≡ number_below before other = λ other behind.
    number_below-same_node before nodes other have.shape (have.kept other behind) in
    record {
      shape = length-set nodes node word ∙ have.shape;
      winner = get_or-set_other nodes node 0 word 0 (omega arith) ∙ have.winner;
      kept = λ other behind. get_or-set_other nodes node other word 0 (omega arith) ∙ have.kept other (omega arith);
      losers = λ other some below. ⊎_elim
          (λ (this : other ≡ node). subst
          (λ n. get_or (set nodes node word) n 0 ≡ max (number_below before (2 * n)) (number_below before (2 * n + 1))) (sym this)
          (get_or-set_same nodes node word 0 within ∙ is ∙ ap (λ n. max n (number_below nodes (2 * node + 1))) (child (2 * node) (omega arith))
          ∙ ap (λ n. max (number_below before (2 * node)) n) (child (2 * node + 1) (omega arith))))
          (λ (apart : other ≢ node). get_or-set_other nodes node other word 0 apart ∙ have.losers other some (omega arith))
          (cases_eq other node);
    }

-- in the end this is a tree of numbered leaves
pub NodesHaveLosersBefore-all_nodes : (before nodes : List ℕ) (node : ℕ) → 1 ≤ length before → length before < 2 ^ 32 → length before ≤ node
    → HaveLeastNumbers 1 before → NodesHaveLosersBefore node before nodes
    → HasLeaves nodes (range_with_len 0 (length before))
NodesHaveLosersBefore-all_nodes before nodes node some few all least have =
    let count = length before in
    let long : length (range_with_len 0 count) ≡ count = length-range_with_len 0 count in
    record {
      least = number_below before;
      shape = have.shape ∙ sym long;
      some = omega arith;
      few = omega arith;
      leaf = λ place within.
          let inside : place < count = omega arith in
          ap (λ n. number_below before (n + place)) long
          ∙ cond-false (ltb (count + place) count) (get_or before (count + place) 0) ((count + place) - count) (le-ltb (count + place) count (omega arith))
          ∙ (let e : (count + place) - count ≡ 0 + place = omega arith in e) ∙ sym (get_or-range_with_len 0 count place 0 inside);
      meet = λ other inner within. cond-true (ltb other count) (get_or before other 0) (other - count) (lt-ltb other count (omega arith))
          ∙ least other (omega arith) inner (omega arith);
      loser = λ other inner within. have.losers other inner (omega arith);
      winner = have.winner;
    }
