-- The sums of a node, by keys and by prefixes.
use Rattle.std.proofs.Common.{◌≡◌, ℕ, ◌+◌, ◌<◌, ◌≤◌, nat_eq, Bool, true, false, ◌&&◌, not, cond, List, [], ◌∷◌}
use Rattle.std.proofs.Common.{length, take, get_or, All, map, filter, refl, sym, ap, ◌∙◌, arith}
use Rattle.std.specs.List.{sum_by}
use Rattle.std.specs.HashMap.{HashMap}
use Rattle.std.proofs.lemmas.Bool.{false≢true, eqb-true}
use Rattle.std.proofs.lemmas.List.Elements.{All-head, All-tail}
use Rattle.std.proofs.lemmas.List.Sums.{sum_by-cons, sum_by_more, sum_by-take-le}
use Rattle.prefix_lattice.specs.{RecordValue, NodeValue, IsNode, PrefixValue, IsPrefix, HasPrefixKey, covers}
use Rattle.prefix_lattice.specs.{node_of_prefix}
use Rattle.prefix_lattice.specs.{prefix_key, prefix_at}
use Rattle.prefix_lattice.specs.{prefix_weight, total_weight, conditioned_weight, one_line_covers, lines_under}
use Rattle.prefix_lattice.specs.declared.grain.Grain.{Grain}
use Rattle.exact_audit.specs.declared.counted.Counted.{Counted}
use Rattle.exact_audit.specs.declared.node_sums.Sums.{Sums}
use Rattle.exact_audit.specs.Depths.{AreDepths, explained_by}
use Rattle.exact_audit.specs.NodeSums.{records_in, AreCountedIn, has_sum, sum_weight}
use Rattle.exact_audit.specs.NodeSums.{sum_left, sums_for, AreKeySums}
use Rattle.exact_audit.specs.NodeSums.{AreNodeSums}
use Rattle.exact_audit.proofs.DepthLemmas.{explained_by_depths, IsNode-depth, DepthLineKeysAreApart}

-- a sum over elements that pass a test is the sum over those that a filter of what they hold keeps
node_sum_by_test : {X Y : Type 0} (test : X → Bool) (keep : Y → Bool) (hold : X → Y) (weigh : Y → ℕ) (xs : List X)
    → All (λ x. test x ≡ keep (hold x)) xs
    → sum_by (λ x. cond (test x) (weigh (hold x)) 0) xs ≡ sum_by weigh (filter keep (map hold xs))
node_sum_by_test test keep hold weigh [] same = refl
node_sum_by_test {X} {Y} test keep hold weigh (x ∷ xs) same =
    sum_by-cons (λ x. cond (test x) (weigh (hold x)) 0) x xs
    ∙ ap (λ b. cond b (weigh (hold x)) 0 + sum_by (λ x. cond (test x) (weigh (hold x)) 0) xs)
    (All-head (λ x. test x ≡ keep (hold x)) x xs same)
    ∙ ap (λ n. cond (keep (hold x)) (weigh (hold x)) 0 + n)
    (node_sum_by_test test keep hold weigh xs (All-tail (λ x. test x ≡ keep (hold x)) x xs same))
    ∙ split (keep (hold x)) (hold x) (filter keep (map hold xs))
  where
    split : (b : Bool) (y : Y) (ys : List Y) → cond b (weigh y) 0 + sum_by weigh ys ≡ sum_by weigh (cond b (y ∷ ys) ys)
    split true y ys = sym (sum_by-cons weigh y ys)
    split false y ys = omega arith

-- the sum of some of the terms is at most the sum of all
node_sum_of_some_terms : {X : Type 0} (test : X → Bool) (weigh : X → ℕ) (xs : List X)
    → sum_by (λ x. cond (test x) (weigh x) 0) xs ≤ sum_by weigh xs
node_sum_of_some_terms test weigh [] = omega arith
node_sum_of_some_terms {X} test weigh (x ∷ xs) =
    let rest = node_sum_of_some_terms test weigh xs in
    let some = sum_by-cons (λ x. cond (test x) (weigh x) 0) x xs in
    let all = sum_by-cons weigh x xs in
    let one = split (test x) (weigh x) in
    omega (arith, rest, some, all, one)
  where
    split : (b : Bool) (n : ℕ) → cond b n 0 ≤ n
    split true n = omega arith
    split false n = omega arith

-- the weight of the records is that of the counted ones
node_sum_is_record_weight : (counted : List Counted)
    → sum_by (λ (c : Counted). c.rec.weight) counted ≡ total_weight (records_in counted)
node_sum_is_record_weight [] = refl
node_sum_is_record_weight (c ∷ counted) =
    sum_by-cons (λ (c : Counted). c.rec.weight) c counted ∙ ap (λ n. c.rec.weight + n) (node_sum_is_record_weight counted)
    ∙ sym (sum_by-cons (λ (r : RecordValue). r.weight) c.rec (records_in counted))

-- what some of the records so far weigh, and the next one, is at most the total
pub partial_node_sum_fits : (counted : List Counted) (test : Counted → Bool) (index : ℕ) (one : Counted)
    → index < length counted
    → one ≡ get_or counted index one
    → sum_by (λ (c : Counted). cond (test c) c.rec.weight 0) (take index counted) + one.rec.weight
    ≤ total_weight (records_in counted)
partial_node_sum_fits counted test index one within at =
    let some = node_sum_of_some_terms test (λ (c : Counted). c.rec.weight) (take index counted) in
    let more = sum_by_more (λ (c : Counted). c.rec.weight) counted index one within in
    let here : one.rec.weight ≡ (get_or counted index one).rec.weight = ap (λ (c : Counted). c.rec.weight) at in
    let less = sum_by-take-le (λ (c : Counted). c.rec.weight) counted (index + 1) in
    let all = node_sum_is_record_weight counted in
    omega (arith, some, more, here, less, all)

-- one more record
pub AreKeySums-next_in_node : {S : Type 0} (node : NodeValue) (counted : List Counted) (index : ℕ) (one : Counted)
    (key : ℕ) (old new : HashMap ℕ Sums S) → index < length counted → one ≡ get_or counted index one
    → key ≡ prefix_key (prefix_at node one.rec)
    → ((other : ℕ) → (sums_for new other).weight ≡ (sums_for old other).weight + cond (nat_eq key other)
    one.rec.weight 0)
    → ((other : ℕ) → (sums_for new other).left
    ≡ (sums_for old other).left + cond (nat_eq key other && not (explained_by one.depths node)) one.rec.weight 0)
    → AreKeySums node (take index counted) old → AreKeySums node (take (index + 1) counted) new
AreKeySums-next_in_node node counted index one key old new within at is weight left before = record {
  weight = λ other. weight other
      ∙ ap (λ n. n + cond (nat_eq key other) one.rec.weight 0) (before.weight other)
      ∙ ap (λ k. sum_weight node other (take index counted) + cond (nat_eq k other) one.rec.weight 0) is
      ∙ ap (λ (c : Counted). sum_weight node other (take index counted) + cond (has_sum node other c) c.rec.weight 0) at
      ∙ sym (sum_by_more (λ (c : Counted). cond (has_sum node other c) c.rec.weight 0) counted index one within);
  left = λ other. left other
      ∙ ap (λ n. n + cond (nat_eq key other && not (explained_by one.depths node)) one.rec.weight 0) (before.left other)
      ∙ ap (λ k. sum_left node other (take index counted)
      + cond (nat_eq k other && not (explained_by one.depths node)) one.rec.weight 0) is
      ∙ ap (λ (c : Counted). sum_left node other (take index counted)
      + cond (has_sum node other c && not (explained_by c.depths node)) c.rec.weight 0) at
      ∙ sym (sum_by_more (λ (c : Counted). cond (has_sum node other c && not (explained_by c.depths node)) c.rec.weight 0)
      counted index one within);
}

-- what the laws of keys say of a prefix and its node
pub record AreNodeSumLaws : Type 0 where
  pub covering : (grain : Grain) (prefix : PrefixValue) (rec : RecordValue) → IsPrefix grain prefix
      → covers prefix rec ≡ nat_eq (prefix_key (prefix_at (node_of_prefix grain prefix) rec)) (prefix_key prefix)
  pub of_record : (node : NodeValue) (rec : RecordValue) → IsNode node.grain node
      → HasPrefixKey node (prefix_key (prefix_at node rec)) (prefix_at node rec)
  pub apart : DepthLineKeysAreApart

-- the weight of the records with the key of a prefix is the weight of the prefix
sum_weight-node_sum : AreNodeSumLaws → (grain : Grain) (prefix : PrefixValue) (counted : List Counted)
    → IsPrefix grain prefix
    → sum_weight (node_of_prefix grain prefix) (prefix_key prefix) counted ≡ prefix_weight prefix (records_in counted)
sum_weight-node_sum laws grain prefix counted is =
    node_sum_by_test (has_sum (node_of_prefix grain prefix) (prefix_key prefix)) (covers prefix) (λ (c : Counted). c.rec)
    (λ (r : RecordValue). r.weight) counted
    (λ place d within. sym (laws.covering grain prefix (get_or counted place d).rec is))

-- and the weight of those that no line explains is its conditioned weight
sum_left-node_sum : AreNodeSumLaws
    → (grain : Grain) (lines : List PrefixValue) (prefix : PrefixValue) (counted : List Counted)
    → IsPrefix grain prefix → All (IsPrefix grain) lines
    → All (λ (c : Counted). AreDepths grain lines c.rec c.depths) counted
    → sum_left (node_of_prefix grain prefix) (prefix_key prefix) counted
    ≡ conditioned_weight prefix lines (records_in counted)
sum_left-node_sum laws grain lines prefix counted is prefixes depths =
    node_sum_by_test (λ (c : Counted). has_sum node (prefix_key prefix) c && not (explained_by c.depths node))
    (λ (r : RecordValue). covers prefix r && not (one_line_covers (lines_under prefix lines) r)) (λ (c : Counted). c.rec)
    (λ (r : RecordValue). r.weight) counted
    (λ place d within. same (get_or counted place d) (depths place d within))
  where
    node : NodeValue
    node = node_of_prefix grain prefix

    own : (c : Counted) → has_sum node (prefix_key prefix) c ≡ true → prefix_at node c.rec ≡ prefix
    own c has =
        let at = laws.of_record node c.rec (IsNode-depth prefix is) in
        laws.apart grain (prefix_at node c.rec) prefix at.is_prefix is at.of_node
        (eqb-true (prefix_key (prefix_at node c.rec)) (prefix_key prefix) has)

    split : (a b x y : Bool) → a ≡ b → (a ≡ true → x ≡ y) → (a && not x) ≡ (b && not y)
    split true true x y same more = ap not (more refl)
    split true false x y same more = absurd (false≢true (sym same))
    split false true x y same more = absurd (false≢true same)
    split false false x y same more = refl

    same : (c : Counted) → AreDepths grain lines c.rec c.depths
        → (has_sum node (prefix_key prefix) c && not (explained_by c.depths node))
        ≡ (covers prefix c.rec && not (one_line_covers (lines_under prefix lines) c.rec))
    same c are =
        split (has_sum node (prefix_key prefix) c) (covers prefix c.rec) (explained_by c.depths node)
        (one_line_covers (lines_under prefix lines) c.rec) (sym (laws.covering grain prefix c.rec is))
        (λ has. explained_by_depths lines c.rec c.depths node are prefixes (IsNode-depth prefix is)
        ∙ ap (λ p. one_line_covers (lines_under p lines) c.rec) (own c has))

-- sums by keys are sums by prefixes
pub AreNodeSums-by_prefix : {S : Type 0} → AreNodeSumLaws → (node : NodeValue) (lines : List PrefixValue)
    (records : List RecordValue) (counted : List Counted) (sums : HashMap ℕ Sums S)
    → AreKeySums node counted sums → AreCountedIn node.grain lines records counted → AreNodeSums node lines records sums
AreNodeSums-by_prefix laws node lines records counted sums by_key are prefix is of_node =
    let make : ℕ → ℕ → Sums = λ weight left. record { weight = weight; left = left } in
    ap (λ weight. make weight (sums_for sums (prefix_key prefix)).left)
    (by_key.weight (prefix_key prefix) ∙ ap (λ n. sum_weight n (prefix_key prefix) counted) (sym of_node)
    ∙ sum_weight-node_sum laws node.grain prefix counted is ∙ ap (prefix_weight prefix) are.same)
    ∙ ap (make (prefix_weight prefix records))
    (by_key.left (prefix_key prefix) ∙ ap (λ n. sum_left n (prefix_key prefix) counted) (sym of_node)
    ∙ sum_left-node_sum laws node.grain lines prefix counted is are.prefixes are.depths
    ∙ ap (conditioned_weight prefix lines) are.same)
