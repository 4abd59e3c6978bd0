use Rattle.std.proofs.Common.{◌≡◌, ◌+◌, ◌++◌, ◌∷◌, [], ℕ, Some, None, IfSome, subst, sym, ap, ◌∙◌}
use Rattle.std.proofs.lemmas.Bool.{false_from_ne_true}
use Rattle.std.proofs.lemmas.Option.{none-some}
use Rattle.prefix_lattice.specs.{NodeValue, node_index, node_at, IsPrefix, node_of_prefix, strictly_under}
use Rattle.prefix_lattice.specs.{prefix_code, upper_at}
use Rattle.prefix_lattice.proofs.NodePlaceLemmas.{node_index-node_at_place}
use Rattle.conditioned_bounds.proofs.UpperLemmas.{UpperKeysHold, same_upper_node, other_upper_node}
use Rattle.conditioned_bounds.proofs.CodeLemmas.{CodeOrderHolds, CodesBefore, codes_skip, codes_add}
use Rattle.conditioned_bounds.proofs.CodeLemmas.{no_code_above_own_node}
use Rattle.conditioned_bounds.proofs.CodeLemmas.{code_above-by_node, code_above-under}
use Rattle.conditioned_bounds.proofs.uppers.codes_above.Goals as goal
use Rattle.conditioned_bounds.proofs.uppers.codes_above.Goals.{in-Some+in_ok-push, in_default}

pub loop-place-preserved-then-eq : goal.loop-place-preserved-then-eq
loop-place-preserved-then-eq c =
    let order : CodeOrderHolds = record {
      reflexive = c.prefixes_are_ordered.ensures.reflexive;
      antisymmetric = c.prefixes_are_ordered.ensures.antisymmetric;
      level = c.prefixes_are_ordered.ensures.level;
      only = c.uppers_are_above.ensures.only;
    } in
    let node : c.unwrap-node.result ≡ node_at c.args.grain c.loop-place.place =
    subst (λ found. IfSome found (λ n. n ≡ node_at c.args.grain c.loop-place.place)) c.unwrap-node.ensures
    c.from_index.ensures.some in
    let mine : c.unwrap-own.result ≡ node_of_prefix c.args.grain c.args.prefix.now =
    subst (λ found. IfSome found (λ n. n ≡ node_of_prefix c.args.grain c.args.prefix.now)) c.unwrap-own.ensures
    c.node.ensures.node in
    let same : c.unwrap-node.result.grain ≡ c.unwrap-own.result.grain =
    ap (λ (n : NodeValue). n.grain) node ∙ sym (ap (λ (n : NodeValue). n.grain) mine) in
    codes_skip c.args.grain c.args.prefix.now c.loop-place.place c.loop-place.codes.items c.loop-place.invariant
    (λ upper is at.
    no_code_above_own_node order c.args.grain c.args.prefix.now upper
    (sym mine ∙ sym (same_upper_node c.unwrap-node.result c.unwrap-own.result same c.if-eq.ensures) ∙ node ∙ sym at))

pub code_of-requires : goal.code_of-requires
code_of-requires c =
    let own = c.unwrap-node.result in
    let node : own ≡ node_at c.args.grain c.loop-place.place =
    subst (λ found. IfSome found (λ n. n ≡ node_at c.args.grain c.loop-place.place)) c.unwrap-node.ensures
    c.from_index.ensures.some in
    let found : upper_at c.args.prefix.now own ≡ Some c.in-Some.above = sym c.upper.ensures.value ∙ c.in-Some.is in
    let is =
    c.uppers_are_above.ensures.above c.args.prefix.now c.in-Some.above own c.upper.ensures.prefix c.upper.ensures.node
    found in
    subst (λ g. IsPrefix g c.in-Some.above) (ap (λ (n : NodeValue). n.grain) node) is.is_prefix

pub loop-place-preserved : goal.loop-place-preserved
loop-place-preserved c =
    let grain = c.args.grain in
    let prefix = c.args.prefix.now in
    let place = c.loop-place.place in
    let codes = c.loop-place.codes.items in
    let own = c.unwrap-node.result in
    let order : CodeOrderHolds = record {
      reflexive = c.prefixes_are_ordered.ensures.reflexive;
      antisymmetric = c.prefixes_are_ordered.ensures.antisymmetric;
      level = c.prefixes_are_ordered.ensures.level;
      only = c.uppers_are_above.ensures.only;
    } in
    let node : own ≡ node_at grain place =
    subst (λ found. IfSome found (λ n. n ≡ node_at grain place)) c.unwrap-node.ensures c.from_index.ensures.some in
    let mine : c.unwrap-own.result ≡ node_of_prefix c.args.grain c.args.prefix.now =
    subst (λ found. IfSome found (λ n. n ≡ node_of_prefix c.args.grain c.args.prefix.now)) c.unwrap-own.ensures
    c.node.ensures.node in
    let keys : UpperKeysHold = record {
      apart = c.keys_are_of_their_node.ensures.apart;
      source = c.prefixes_cover_their_own_addresses.ensures.source;
      dest = c.prefixes_cover_their_own_addresses.ensures.dest;
    } in
    let of_grain : own.grain ≡ grain = ap (λ (n : NodeValue). n.grain) node in
    let index : node_index own ≡ place = ap node_index node ∙ node_index-node_at_place grain place in
    elim c.match-upper.branch [
      | in-Some+in_ok-push w ↦
          let found : upper_at prefix own ≡ Some w.in-Some.above = sym c.upper.ensures.value ∙ w.in-Some.is in
          let is = c.uppers_are_above.ensures.above prefix w.in-Some.above own c.upper.ensures.prefix
          c.upper.ensures.node found in
          let of_node : node_of_prefix grain w.in-Some.above ≡ own =
          ap (λ g. node_of_prefix g w.in-Some.above) (sym of_grain) ∙ is.of_node in
          let made : c.match-upper.codes.items ≡ codes ++ prefix_code grain w.in-Some.above ∷ [] =
          ap (λ made. made.items) w.codes-is ∙ w.in_ok-push.ensures.items
          ∙ ap (λ (code : ℕ). codes ++ code ∷ []) w.code_of.ensures in
          subst (CodesBefore grain prefix (place + 1)) (sym made)
          (codes_add keys order grain prefix place codes w.in-Some.above c.loop-place.invariant
          (subst (λ g. IsPrefix g w.in-Some.above) of_grain is.is_prefix) (ap node_index of_node ∙ index)
          (code_above-by_node order grain prefix w.in-Some.above is.is_under
          (λ same. other_upper_node own c.unwrap-own.result c.if-eq.ensures (sym of_node ∙ sym same ∙ sym mine))))
      | in_default w ↦
          let none : upper_at prefix own ≡ None = sym c.upper.ensures.value ∙ w.in_default.is in
          subst (CodesBefore grain prefix (place + 1)) (sym (ap (λ made. made.items) w.codes-is))
          (codes_skip grain prefix place codes c.loop-place.invariant
          (λ other other_is at.
          false_from_ne_true (strictly_under prefix other) (λ strictly.
          none-some other
          (sym none ∙ ap (upper_at prefix) (node ∙ sym at)
          ∙ order.only grain prefix other (code_above-under prefix other strictly)))))
    ]
