-- Members, their codes and their nodes.
use Rattle.std.proofs.Common.{◌≡◌, ℕ, ◌+◌, ◌<◌, eqb, cond, Bool, true, false, List, [], ◌∷◌, ◌++◌, length, get_or}
use Rattle.std.proofs.Common.{Contains, All}
use Rattle.std.proofs.Common.{refl, sym, ap, ◌∙◌, subst, arith, ⊎_elim}
use Rattle.std.specs.List.{list_any}
use Rattle.std.specs.Ordering.{nat_cmp, eq_by_cmp}
use Rattle.std.specs.BTreeSet.{BTreeSet, contains}
use Rattle.std.specs.Cmp.{unsigned_tied}
use Rattle.std.proofs.lemmas.Bool.{false≢true, eqb-true, eq-eqb, or_cases}
use Rattle.std.proofs.lemmas.List.{length_push}
use Rattle.std.proofs.lemmas.List.Elements.{All-push, All-weaker, All-head, All-tail, Contains-push}
use Rattle.std.proofs.lemmas.List.Elements.{Contains-push_cases}
use Rattle.std.proofs.lemmas.List.Elements.{Contains-append_left}
use Rattle.prefix_lattice.specs.{NodeValue, PrefixValue, IsPrefix, node_of_prefix, prefix_code, finest_grain}
use Rattle.conditioned_bounds.specs.Members.{AreMembers, member_limit}
use Rattle.conditioned_bounds.proofs.UpperLemmas.{UpperKeysHold, same_upper_code, upper_nodes_are_equal, same_upper_node}
use Rattle.prefix_lattice.proofs.ListLemmas.{Contains-list_head, Contains-list_tail}

-- members whose parts are equal
pub members_same : (members others : List PrefixValue) (codes other_codes : BTreeSet ℕ) (at other_at : List NodeValue)
    → others ≡ members → other_codes.keys ≡ codes.keys → other_at ≡ at → AreMembers members codes at
    → AreMembers others other_codes other_at
members_same members others codes other_codes at other_at same same_codes same_at are =
    let has : (code : ℕ) → contains nat_cmp other_codes code ≡ contains nat_cmp codes code =
    λ code. ap (λ (keys : List ℕ). contains nat_cmp (record { keys = keys }) code) same_codes in
    let of : AreMembers members other_codes at = record {
      few = are.few;
      prefixes = are.prefixes;
      coded = λ prefix there. has (prefix_code finest_grain prefix) ∙ are.coded prefix there;
      found = λ prefix is there. are.found prefix is (sym (has (prefix_code finest_grain prefix)) ∙ there);
      nodes = are.nodes;
      finest = are.finest;
    } in
    subst (λ ms. AreMembers ms other_codes other_at) (sym same)
    (subst (AreMembers members other_codes) (sym same_at) of)

-- one more member
pub members_push : UpperKeysHold → (members : List PrefixValue) (prefix : PrefixValue) (codes new_codes : BTreeSet ℕ)
    (at new_at : List NodeValue) → AreMembers members codes at → IsPrefix finest_grain prefix
    → length members + 1 < member_limit
    → ((q : ℕ) → contains nat_cmp new_codes q
    ≡ cond (eq_by_cmp nat_cmp (prefix_code finest_grain prefix) q) true (contains nat_cmp codes q))
    → ((node : NodeValue) → Contains at node → Contains new_at node)
    → Contains new_at (node_of_prefix finest_grain prefix)
    → All (λ node. node.grain ≡ finest_grain) new_at
    → AreMembers (members ++ prefix ∷ []) new_codes new_at
members_push keys members prefix codes new_codes at new_at are is few adds kept there finest = record {
  few = omega (arith, few, length_push members prefix);
  prefixes = All-push (IsPrefix finest_grain) members prefix are.prefixes is;
  coded = λ other among.
      ⊎_elim
      (λ old. adds (prefix_code finest_grain other)
      ∙ old_or (eq_by_cmp nat_cmp (prefix_code finest_grain prefix) (prefix_code finest_grain other))
      (contains nat_cmp codes (prefix_code finest_grain other))
      (are.coded other old))
      (λ same. adds (prefix_code finest_grain other)
      ∙ ap (λ b. cond b true (contains nat_cmp codes (prefix_code finest_grain other)))
      (unsigned_tied (prefix_code finest_grain prefix) (prefix_code finest_grain other)
      ∙ eq-eqb (prefix_code finest_grain prefix) (prefix_code finest_grain other) (ap (prefix_code finest_grain) same)))
      (Contains-push_cases members prefix other among);
  found = λ other other_is has.
      by other other_is (eqb (prefix_code finest_grain prefix) (prefix_code finest_grain other)) refl
      (sym (ap (λ b. cond b true (contains nat_cmp codes (prefix_code finest_grain other)))
      (unsigned_tied (prefix_code finest_grain prefix) (prefix_code finest_grain other)))
      ∙ sym (adds (prefix_code finest_grain other)) ∙ has);
  nodes =
      All-push (λ member. Contains new_at (node_of_prefix finest_grain member)) members prefix
      (All-weaker (λ member. Contains at (node_of_prefix finest_grain member)) (λ member. Contains new_at
      (node_of_prefix finest_grain member))
      (λ member old. kept (node_of_prefix finest_grain member) old) members are.nodes) there;
  finest = finest;
}
  where
    old_or : (b old : Bool) → old ≡ true → cond b true old ≡ true
    old_or true old is = refl
    old_or false old is = is

    by : (other : PrefixValue) → IsPrefix finest_grain other → (b : Bool)
        → eqb (prefix_code finest_grain prefix) (prefix_code finest_grain other) ≡ b
        → cond b true (contains nat_cmp codes (prefix_code finest_grain other)) ≡ true
        → Contains (members ++ prefix ∷ []) other
    by other other_is true same _ =
        subst (Contains (members ++ prefix ∷ []))
        (same_upper_code keys prefix other is other_is (eqb-true (prefix_code finest_grain prefix)
        (prefix_code finest_grain other) same))
        (Contains-push members prefix)
    by other other_is false _ has =
        Contains-append_left members (prefix ∷ []) other (are.found other other_is has)

-- a node of the finest grain that was found among such nodes is there
pub member_node_is_there : (nodes : List NodeValue) (node : NodeValue) → All (λ n. n.grain ≡ finest_grain) nodes
    → node.grain ≡ finest_grain → list_any (λ n. upper_nodes_are_equal n node) nodes ≡ true → Contains nodes node
member_node_is_there [] node all finest found = absurd (false≢true found)
member_node_is_there (n ∷ nodes) node all finest found =
    ⊎_elim
    (λ (here : upper_nodes_are_equal n node ≡ true).
    subst (Contains (n ∷ nodes))
    (same_upper_node n node (All-head (λ m. m.grain ≡ finest_grain) n nodes all ∙ sym finest) (sym here))
    (Contains-list_head n nodes))
    (λ later.
    Contains-list_tail n nodes node
    (member_node_is_there nodes node (All-tail (λ m. m.grain ≡ finest_grain) n nodes all) finest later))
    (or_cases (upper_nodes_are_equal n node) (list_any (λ m. upper_nodes_are_equal m node) nodes) found)

-- each of some nodes of the finest grain is of it
pub member_node_is_finest : (nodes : List NodeValue) (at : ℕ) (node : NodeValue) → All (λ n. n.grain ≡ finest_grain) nodes
    → at < length nodes → node ≡ get_or nodes at node → node.grain ≡ finest_grain
member_node_is_finest nodes at node all within is = ap (λ (n : NodeValue). n.grain) is ∙ all at node within
