use Rattle.std.proofs.Common.{◌≡◌, ◌+◌, ◌<◌, ℕ, cond, true, Bool, List, [], ◌∷◌, ◌++◌, length, All, Contains}
use Rattle.std.proofs.Common.{subst, sym, ap, ◌∙◌}
use Rattle.std.specs.List.{list_any}
use Rattle.std.proofs.lemmas.List.Elements.{All-push, Contains-push, Contains-append_left}
use Rattle.std.specs.Ordering.{nat_cmp, eq_by_cmp}
use Rattle.std.specs.BTreeSet.{contains}
use Rattle.prefix_lattice.specs.{NodeValue, PrefixValue, node_of_prefix, prefix_code, finest_grain}
use Rattle.conditioned_bounds.specs.Members.{AreMembers, member_limit}
use Rattle.conditioned_bounds.proofs.MemberLemmas.{members_same, members_push, member_node_is_there}
use Rattle.conditioned_bounds.proofs.UpperLemmas.{UpperKeysHold, upper_nodes_are_equal}
use Rattle.conditioned_bounds.proofs.members.Members.push.Goals as goal
use Rattle.conditioned_bounds.proofs.members.Members.push.Goals.{then-not-contains+in_ok-push, else-not-contains}

pub invariant_of-self-in_err-insert : goal.invariant_of-self-in_err-insert
invariant_of-self-in_err-insert c =
    members_same c.self.inside.prefixes.items c.reserve.new.self.items c.self.inside.codes c.insert.new.self
    c.self.inside.nodes.items c.reserve-2.new.self.items c.reserve.ensures.items c.in_err-insert.ensures.err
    c.reserve-2.ensures.items c.self.invariant

pub invariant_of-self-2 : goal.invariant_of-self-2
invariant_of-self-2 c =
    let inside = c.self.inside in
    let prefix = c.args.prefix.now in
    let old = inside.nodes.items in
    let node : c.member_node-node.result ≡ node_of_prefix finest_grain prefix = c.member_node-node.ensures in
    let keys : UpperKeysHold = record {
      apart = c.keys_are_of_their_node.ensures.apart;
      source = c.prefixes_cover_their_own_addresses.ensures.source;
      dest = c.prefixes_cover_their_own_addresses.ensures.dest;
    } in
    let few : length inside.prefixes.items + 1 < member_limit =
    subst (λ (ms : List PrefixValue). length ms + 1 < member_limit) (sym c.self.view_is) c.requires in
    let adds : (q : ℕ) → contains nat_cmp c.insert.new.self q
    ≡ cond (eq_by_cmp nat_cmp (prefix_code finest_grain prefix) q) true (contains nat_cmp inside.codes q) =
    subst (λ (code : ℕ). (q : ℕ) → contains nat_cmp c.insert.new.self q
    ≡ cond (eq_by_cmp nat_cmp code q) true (contains nat_cmp inside.codes q))
    c.code_of.ensures c.in_ok-insert.ensures.updates.0 in
    let pushed : (at : List NodeValue) → ((n : NodeValue) → Contains old n → Contains at n)
    → Contains at (node_of_prefix finest_grain prefix) → All (λ n. n.grain ≡ finest_grain) at
    → AreMembers (inside.prefixes.items ++ prefix ∷ []) c.insert.new.self at =
    λ at kept there finest.
    members_push keys inside.prefixes.items prefix inside.codes c.insert.new.self
    old at c.self.invariant c.keeps_leading_bits.ensures few adds kept there finest in
    let joined = c.if-not-contains.self-inside in
    let own : c.member_node-node.result.grain ≡ finest_grain = ap (λ (n : NodeValue). n.grain) node in
    let Test : List NodeValue → Bool = list_any (λ n. upper_nodes_are_equal n c.member_node-node.result) in
    elim c.if-not-contains.branch [
      | then-not-contains+in_ok-push w ↦
          let at = old ++ c.member_node-node.result ∷ [] in
          members_same (inside.prefixes.items ++ prefix ∷ []) c.push-2.new.self.items c.insert.new.self joined.codes at
          joined.nodes.items
          (c.in_ok-push-2.ensures.items
          ∙ ap (λ i. i.prefixes.items ++ prefix ∷ []) w.self-inside-is
          ∙ ap (λ (ms : List PrefixValue). ms ++ prefix ∷ []) c.reserve.ensures.items)
          (ap (λ i. i.codes.keys) w.self-inside-is)
          (ap (λ i. i.nodes.items) w.self-inside-is ∙ w.in_ok-push.ensures.items
          ∙ ap (λ (ns : List NodeValue). ns ++ c.member_node-node.result ∷ []) c.reserve-2.ensures.items)
          (pushed at (λ n there. Contains-append_left old (c.member_node-node.result ∷ []) n there)
          (subst (Contains at) node (Contains-push old c.member_node-node.result))
          (All-push (λ n. n.grain ≡ finest_grain) old c.member_node-node.result c.self.invariant.finest own))
      | else-not-contains w ↦
          members_same (inside.prefixes.items ++ prefix ∷ []) c.push-2.new.self.items c.insert.new.self joined.codes old
          joined.nodes.items
          (c.in_ok-push-2.ensures.items
          ∙ ap (λ i. i.prefixes.items ++ prefix ∷ []) w.self-inside-is
          ∙ ap (λ (ms : List PrefixValue). ms ++ prefix ∷ []) c.reserve.ensures.items)
          (ap (λ i. i.codes.keys) w.self-inside-is)
          (ap (λ i. i.nodes.items) w.self-inside-is ∙ c.reserve-2.ensures.items)
          (pushed old (λ n there. there)
          (subst (Contains old) node
          (member_node_is_there old c.member_node-node.result c.self.invariant.finest own
          (ap Test (sym (c.deref.ensures.value ∙ c.reserve-2.ensures.items)) ∙ sym c.contains.ensures.value
          ∙ w.if-not-contains.false)))
          c.self.invariant.finest)
    ]
