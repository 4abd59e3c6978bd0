use Rattle.std.proofs.Common.{◌≡◌, ◌<◌, ◌≤◌, unwrap_or, length, slice_get, inl, inr, ⊎_elim, ap, sym, ◌∙◌, arith}
use Rattle.std.proofs.lemmas.Bool.{false≢true, cases_lt}
use Rattle.std.proofs.lemmas.List.{length-set}
use Rattle.std.proofs.lemmas.Option.{slice_get_within}
use Rattle.prefix_lattice.specs.{node_index, node_of_prefix, prefix_key}
use Rattle.exact_audit.specs.NodeSums.{sums_for, no_sums}
use Rattle.exact_audit.proofs.FindingLemmas.{finding_line_is_prefix}
use Rattle.exact_audit.proofs.LeftOutLemmas.{left_out_node_by_index}
use Rattle.exact_audit.proofs.LineTestLemmas.{line_test_notes_line, line_test_skips_other_node}
use Rattle.exact_audit.proofs.findings.note_lines.Goals as goal
use Rattle.exact_audit.proofs.findings.note_lines.Goals.{then-is_of_node, else-is_of_node}

pub loop-place-preserved : goal.loop-place-preserved
loop-place-preserved c =
    let line = c.index-lines-place.result in
    let lines = c.args.lines.now in
    let old = c.loop-place.line_sums.items in
    let place = c.loop-place.place in
    let node = c.args.node in
    let sums = c.args.sums.now in
    elim c.if-is_of_node.branch [
      | then-is_of_node w ↦
          let own = w.unwrap_or.result in
          let items = ap (λ v. v.items) w.line_sums-is in
          let own_is : own ≡ sums_for sums (prefix_key line.prefix) =
          w.unwrap_or.ensures ∙ ap (λ o. unwrap_or o no_sums) (w.copied.ensures ∙ w.get.ensures.value)
          ∙ ap (sums_for sums) w.key.ensures.value in
          let of_node : node_of_prefix node.grain line.prefix ≡ node = c.is_of_node.ensures.value.0 w.if-is_of_node.true in (
            omega (arith, ap length items, length-set old place own, c.loop-place.invariant.0),
            λ records of_grain are before other its there when.
                ap (λ s. slice_get s other) items
                ∙ line_test_notes_line node.grain (node_index node) place lines records old line own
                c.loop-place.invariant.0 c.loop-place-test.true
                c.index-lines-place.is (own_is ∙ are line.prefix
                (finding_line_is_prefix lines place line of_grain c.loop-place-test.true c.index-lines-place.is) of_node)
                (c.loop-place.invariant.1 records of_grain are before) other its there when,
          )
      | else-is_of_node w ↦
          let items = ap (λ v. v.items) w.line_sums-is in (
            omega (arith, ap length items, c.loop-place.invariant.0),
            λ records of_grain are before other its there when.
                ap (λ s. slice_get s other) items
                ∙ line_test_skips_other_node node.grain (node_index node) place lines records old line
                c.loop-place-test.true c.index-lines-place.is
                (λ same. false≢true (sym w.if-is_of_node.false ∙ c.is_of_node.ensures.value.1
                (left_out_node_by_index node line.prefix c.is_of_node.ensures.node
                (finding_line_is_prefix lines place line of_grain c.loop-place-test.true c.index-lines-place.is) same)))
                (c.loop-place.invariant.1 records of_grain are before) other its there when,
          )
    ]

pub returns-clause-sums : goal.returns-clause-sums
returns-clause-sums c = λ records of_grain are before. record {
  as_many = c.loop-place.invariant.0;
  each = λ place line at less. c.loop-place.invariant.1 records of_grain are before place line at
      (⊎_elim (λ (earlier : node_index (node_of_prefix c.args.node.grain line.prefix) < node_index c.args.node). inl earlier)
      (λ (here : node_index c.args.node ≤ node_index (node_of_prefix c.args.node.grain line.prefix)).
      inr (
        omega (arith, here, less),
        omega
            (arith, slice_get_within c.args.lines.now place line at, c.loop-place-test.false),
      ))
      (cases_lt (node_index (node_of_prefix c.args.node.grain line.prefix)) (node_index c.args.node)));
}
