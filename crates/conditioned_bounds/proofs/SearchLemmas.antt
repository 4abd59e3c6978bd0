-- Members that pass a test, looked for at one node after another.
use Rattle.std.proofs.Common.{◌≡◌, ◌≢◌, ℕ, ◌+◌, ◌<◌, ◌≤◌, cond, Bool, true, false, ◌&&◌, ◌||◌, not, List, [], ◌∷◌}
use Rattle.std.proofs.Common.{length, get_or, take, filter, All, Contains, Option, None, Some, refl, sym, ap, ◌∙◌}
use Rattle.std.proofs.Common.{subst}
use Rattle.std.proofs.Common.{arith, ⊎_elim, take_all}
use Rattle.std.specs.List.{list_any}
use Rattle.std.proofs.lemmas.Bool.{false≢true, and_parts, and_from, false_from_ne_true, or_from}
use Rattle.std.proofs.lemmas.Option.{none-some}
use Rattle.std.proofs.lemmas.List.{take_more}
use Rattle.std.proofs.lemmas.List.Elements.{Contains-get_or, Contains-push_cases}
use Rattle.std.proofs.lemmas.List.Folds.{list_any_none, list_any-from_Any}
use Rattle.prefix_lattice.specs.{NodeValue, PrefixValue, node_of_prefix, under, same_as, strictly_under}
use Rattle.prefix_lattice.specs.{lines_under, upper_at, finest_grain}
use Rattle.conditioned_bounds.proofs.CodeLemmas.{CodeOrderHolds, no_code_above_own_node, code_above-under}

-- no member of the first nodes passes the test
abbrev pub SearchFoundNone : List PrefixValue → (PrefixValue → Bool) → List NodeValue → ℕ → Type 0
SearchFoundNone members test nodes count =
    (member : PrefixValue) → Contains members member → Contains (take count nodes) (node_of_prefix finest_grain member)
    → test member ≡ false

-- at first no node is searched
pub search_starts_with_none : (members : List PrefixValue) (test : PrefixValue → Bool) (nodes : List NodeValue)
    → SearchFoundNone members test nodes 0
search_starts_with_none members test nodes member there among = absurd (omega (arith, among.1))

-- one more node
pub search-one_more_node : (members : List PrefixValue) (test : PrefixValue → Bool) (nodes : List NodeValue) (count : ℕ)
    (node : NodeValue) → SearchFoundNone members test nodes count → count < length nodes
    → node ≡ get_or nodes count node
    → ((member : PrefixValue) → Contains members member → node_of_prefix finest_grain member ≡ node
    → test member ≡ false)
    → SearchFoundNone members test nodes (count + 1)
search-one_more_node members test nodes count node before within is here member there among =
    ⊎_elim (λ earlier. before member there earlier)
    (λ at. here member there (sym (is ∙ at)))
    (Contains-push_cases (take count nodes) (get_or nodes count node) (node_of_prefix finest_grain member)
    (subst (λ ns. Contains ns (node_of_prefix finest_grain member)) (take_more nodes count node within) among))

-- after all nodes no member passes the test
pub search_ends_with_none : (members : List PrefixValue) (test : PrefixValue → Bool) (nodes : List NodeValue) (count : ℕ)
    → All (λ member. Contains nodes (node_of_prefix finest_grain member)) members
    → SearchFoundNone members test nodes count
    → length nodes ≤ count → list_any test members ≡ false
search_ends_with_none members test nodes count have before all =
    list_any_none test members (λ k d within.
    before (get_or members k d) (Contains-get_or members k d within)
    (subst (λ ns. Contains ns (node_of_prefix finest_grain (get_or members k d))) (sym (take_all count nodes all))
    (have k d within)))

-- one that passes is enough
pub search_finds_one : (members : List PrefixValue) (test : PrefixValue → Bool) (member : PrefixValue)
    → Contains members member → test member ≡ true → list_any test members ≡ true
search_finds_one members test member (at, within, is) passes =
    list_any-from_Any test members (at, member, within, is, passes)

-- a test of those that pass another
search-filter : (test first : PrefixValue → Bool) (xs : List PrefixValue)
    → list_any test (filter first xs) ≡ list_any (λ x. first x && test x) xs
search-filter test first [] = refl
search-filter test first (x ∷ xs) =
    by (first x) (search-filter test first xs)
  where
    by : (b : Bool) → list_any test (filter first xs) ≡ list_any (λ y. first y && test y) xs
        → list_any test (cond b (x ∷ filter first xs) (filter first xs))
        ≡ ((b && test x) || list_any (λ y. first y && test y) xs)
    by true rest = ap (λ b. test x || b) rest
    by false rest = rest

-- whether a line is strictly under another that is strictly under a prefix
abbrev pub search_explains : PrefixValue → PrefixValue → PrefixValue → Bool
search_explains line prefix other = strictly_under other prefix && strictly_under line other

pub search_explained : (lines : List PrefixValue) (line prefix : PrefixValue)
    → list_any (search_explains line prefix) lines
    ≡ list_any (λ other. strictly_under line other) (lines_under prefix lines)
search_explained lines line prefix =
    sym (search-filter (λ other. strictly_under line other) (λ other. strictly_under other prefix) lines)

search-false_and : (a b : Bool) → b ≡ false → (a && b) ≡ false
search-false_and true b is = is
search-false_and false b is = refl

-- no line of its own node explains it
pub search_own_node-explains_none : CodeOrderHolds → (line prefix other : PrefixValue)
    → node_of_prefix finest_grain other ≡ node_of_prefix finest_grain line
    → search_explains line prefix other ≡ false
search_own_node-explains_none order line prefix other same =
    search-false_and (strictly_under other prefix) (strictly_under line other)
    (no_code_above_own_node order finest_grain line other (sym same))

search_some-injective : (x y : PrefixValue) → ◌≡◌ {A = Option PrefixValue} (Some x) (Some y) → x ≡ y
search_some-injective x y same = cc

-- none of a node at which it has no upper one
pub search_no_upper-explains_none : CodeOrderHolds → (line prefix other : PrefixValue)
    → upper_at line (node_of_prefix finest_grain other) ≡ None
    → search_explains line prefix other ≡ false
search_no_upper-explains_none order line prefix other none =
    search-false_and (strictly_under other prefix) (strictly_under line other)
    (false_from_ne_true (strictly_under line other) (λ is.
    none-some other (sym none ∙ order.only finest_grain line other (code_above-under line other is))))

-- and of another node only its upper one
pub search_other-explains_none : CodeOrderHolds → (line prefix other upper : PrefixValue)
    → upper_at line (node_of_prefix finest_grain other) ≡ Some upper
    → (upper ≡ other → strictly_under upper prefix ≡ false) → search_explains line prefix other ≡ false
search_other-explains_none order line prefix other upper found apart =
    false_from_ne_true (search_explains line prefix other) (λ is.
    let both = and_parts (strictly_under other prefix) (strictly_under line other) is in
    let same : upper ≡ other =
    search_some-injective upper other (sym found ∙ order.only finest_grain line other
    (code_above-under line other both.1)) in
    false≢true (sym (apart same) ∙ ap (λ p. strictly_under p prefix) same ∙ both.0))

-- whether a meet is under a member that is neither of two
abbrev pub is_search_third : PrefixValue → PrefixValue → PrefixValue → PrefixValue → Bool
is_search_third first second meet third = under meet third && not (same_as third first || same_as third second)

search_same-reflexive : CodeOrderHolds → (prefix : PrefixValue) → same_as prefix prefix ≡ true
search_same-reflexive order prefix = and_from _ _ (order.reflexive prefix) (order.reflexive prefix)

-- the member of the first one's node that a meet is under is the first one
pub search_first-is_no_third : CodeOrderHolds → (first second meet third : PrefixValue) → under meet first ≡ true
    → node_of_prefix finest_grain third ≡ node_of_prefix finest_grain first
    → is_search_third first second meet third ≡ false
search_first-is_no_third order first second meet third is node =
    false_from_ne_true (is_search_third first second meet third) (λ found.
    let both = and_parts (under meet third) (not (same_as third first || same_as third second)) found in
    let one : third ≡ first =
    search_some-injective third first
    (sym (order.only finest_grain meet third both.0) ∙ ap (upper_at meet) node
    ∙ order.only finest_grain meet first is) in
    let same : same_as third first ≡ true = ap (λ p. same_as p first) one ∙ search_same-reflexive order first in
    false≢true (sym (ap (λ b. not (b || same_as third second)) same) ∙ both.1))

-- and so of the second
pub search_second-is_no_third : CodeOrderHolds → (first second meet third : PrefixValue) → under meet second ≡ true
    → node_of_prefix finest_grain third ≡ node_of_prefix finest_grain second
    → is_search_third first second meet third ≡ false
search_second-is_no_third order first second meet third is node =
    false_from_ne_true (is_search_third first second meet third) (λ found.
    let both = and_parts (under meet third) (not (same_as third first || same_as third second)) found in
    let one : third ≡ second =
    search_some-injective third second
    (sym (order.only finest_grain meet third both.0) ∙ ap (upper_at meet) node
    ∙ order.only finest_grain meet second is) in
    let same : same_as third second ≡ true = ap (λ p. same_as p second) one ∙ search_same-reflexive order second in
    false≢true (sym (ap (λ b. not (same_as third first || b)) same ∙ ap not (or_true (same_as third first)))
    ∙ both.1))
  where
    or_true : (b : Bool) → (b || true) ≡ true
    or_true true = refl
    or_true false = refl

-- where a meet has no upper one at a node, no member of the node is a third
pub search_no_upper-no_third : CodeOrderHolds → (first second meet third : PrefixValue)
    → upper_at meet (node_of_prefix finest_grain third) ≡ None
    → is_search_third first second meet third ≡ false
search_no_upper-no_third order first second meet third none =
    false_from_ne_true (is_search_third first second meet third) (λ found.
    none-some third (sym none
    ∙ order.only finest_grain meet third
    (and_parts (under meet third) (not (same_as third first || same_as third second)) found).0))

-- where it has one, no other member is
pub search_other-is_no_third : CodeOrderHolds → (first second meet third upper : PrefixValue)
    → upper_at meet (node_of_prefix finest_grain third) ≡ Some upper
    → (upper ≡ third → ⊥) → is_search_third first second meet third ≡ false
search_other-is_no_third order first second meet third upper is apart =
    false_from_ne_true (is_search_third first second meet third) (λ found.
    apart (search_some-injective upper third (sym is
    ∙ order.only finest_grain meet third
    (and_parts (under meet third) (not (same_as third first || same_as third second)) found).0)))

-- a member of another node than both that the meet is under is a third
pub is_search_third-by_node : CodeOrderHolds → (first second meet third : PrefixValue) → under meet third ≡ true
    → node_of_prefix finest_grain third ≢ node_of_prefix finest_grain first
    → node_of_prefix finest_grain third ≢ node_of_prefix finest_grain second
    → is_search_third first second meet third ≡ true
is_search_third-by_node order first second meet third is not_first not_second =
    and_from (under meet third) (not (same_as third first || same_as third second)) is
    (ap not (or_from (same_as third first) (same_as third second) (differs first not_first)
    (differs second not_second)))
  where
    differs : (other : PrefixValue) → node_of_prefix finest_grain third ≢ node_of_prefix finest_grain other
        → same_as third other ≡ false
    differs other apart =
        false_from_ne_true (same_as third other) (λ same.
        let both = and_parts (under third other) (under other third) same in
        apart (ap (node_of_prefix finest_grain) (order.antisymmetric third other both.0 both.1)))
