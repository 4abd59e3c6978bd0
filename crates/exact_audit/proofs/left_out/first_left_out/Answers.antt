use Rattle.std.proofs.Common.{◌≡◌, ℕ, ◌+◌, ◌≤◌, ◌<◌, Some, IfSome, nat_eq, unwrap_or, take, length, get_or, ap, sym}
use Rattle.std.proofs.Common.{◌∙◌, subst, arith}
use Rattle.std.specs.HashMap.{get, keys}
use Rattle.std.specs.Option.{option_map}
use Rattle.std.specs.Map.Iter.{deref_pair}
use Rattle.std.proofs.lemmas.List.{take_all, length-map}
use Rattle.std.proofs.lemmas.Option.{get_or_from_slice_get, slice_get-map, slice_get_within}
use Rattle.prefix_lattice.specs.{node_index}
use Rattle.exact_audit.specs.declared.node_sums.Sums.{Sums}
use Rattle.exact_audit.specs.NodeSums.{no_sums, sums_for}
use Rattle.exact_audit.specs.Findings.{IsFirstWith}
use Rattle.exact_audit.proofs.LeftOutLemmas.{first_left_out_before_keys, first_left_out_after_keys}
use Rattle.exact_audit.proofs.LeftOutLemmas.{first_left_out_skips_light, first_left_out_takes_heavy}
use Rattle.exact_audit.proofs.left_out.first_left_out.Goals as goal
use Rattle.exact_audit.proofs.left_out.first_left_out.Goals.{then-of_key-threshold, else-of_key-threshold}

pub loop-place-init : goal.loop-place-init
loop-place-init c = λ prefixes records coded are before.
    first_left_out_before_keys c.args.node.grain (node_index c.args.node) prefixes records c.args.threshold c.args.found before

pub loop-place-preserved : goal.loop-place-preserved
loop-place-preserved c = λ prefixes records coded are before.
    let sums = c.args.sums.now in
    let place = c.loop-place.place in
    let key = c.unwrap.result.0.now in
    let own = c.unwrap.result.1.now in
    let at = slice_get-map (λ (e : ℕ × Sums). e.0) sums.entries place
    ∙ ap (option_map (λ (e : ℕ × Sums). e.0))
    (sym c.get_index.ensures.entry ∙ ap (option_map deref_pair) c.unwrap.ensures) in
    let within : place < length (keys sums) = slice_get_within (keys sums) place key at in
    let key_at : get_or (keys sums) place 0 ≡ key = get_or_from_slice_get (keys sums) place key 0 at in
    let there : get nat_eq sums key ≡ Some own =
    subst (λ o. IfSome o (λ p. get nat_eq sums p.0.now ≡ Some p.1.now)) c.unwrap.ensures c.get_index.ensures.value in
    let left : (sums_for sums key).left ≡ own.left =
    ap (λ o. (unwrap_or o no_sums).left) there in
    elim c.if-of_key-threshold.branch [
      | then-of_key-threshold w ↦
          let one = w.unwrap-prefix.result in
          let has = (w.from_key.ensures.prefix one).0 w.unwrap-prefix.ensures in
          subst (IsFirstWith c.args.node.grain (node_index c.args.node) (take (place + 1) (keys sums)) prefixes records c.args.threshold)
          (sym (w.found-is ∙ w.first_unless_line-found.ensures.value))
          (first_left_out_takes_heavy c.report_order_is_total.ensures.total c.keys_are_of_their_node.ensures.apart c.args.node prefixes
          records c.args.lines.now.codes.keys c.args.threshold sums place key own.left one c.loop-place.found
          c.requires.node are coded within key_at left w.if-of_key-threshold.true has
          (omega (arith, w.first_unless_line-found.ensures.small, has.of_key))
          (c.loop-place.invariant prefixes records coded are before))
      | else-of_key-threshold w ↦
          subst (IsFirstWith c.args.node.grain (node_index c.args.node) (take (place + 1) (keys sums)) prefixes records c.args.threshold)
          (sym w.found-is)
          (first_left_out_skips_light c.args.node prefixes records c.args.threshold sums place key own.left c.loop-place.found
          c.requires.node are within key_at left w.if-of_key-threshold.false
          (c.loop-place.invariant prefixes records coded are before))
    ]

pub returns : goal.returns
returns c = λ prefixes records coded are before.
    let sums = c.args.sums.now in
    let all : length (keys sums) ≤ c.loop-place.place =
    omega (
      arith,
      c.loop-place-test.false,
      c.len-place-end.ensures.len,
      length-map {A = ℕ × Sums} sums.entries
          (λ e. e.0),
    ) in
    first_left_out_after_keys c.args.node prefixes records c.args.threshold sums c.loop-place.found c.requires.node
    c.requires.some are
    (subst (λ some. IsFirstWith c.args.node.grain (node_index c.args.node) some prefixes records c.args.threshold c.loop-place.found)
    (take_all c.loop-place.place (keys sums) all)
    (c.loop-place.invariant prefixes records coded are before))
