use Rattle.std.proofs.Common.{◌≡◌, ◌+◌, ◌++◌, ◌∷◌, [], ◌<◌, length, get_or, set, IfSome, sym, ap, subst, ◌∙◌, arith}
use Rattle.std.proofs.lemmas.List.{get_or_default, length-set}
use Rattle.prefix_lattice.specs.{NodeValue, node_index, node_at, node_of_prefix}
use Rattle.prefix_lattice.specs.declared.grain.Grain.{Grain}
use Rattle.prefix_lattice.proofs.NodePlaceLemmas.{node_index-node_at_place}
use Rattle.exact_audit.specs.LineCodes.{AreLineCodes}
use Rattle.exact_audit.specs.ClosestLines.{IsNotedBefore}
use Rattle.exact_audit.proofs.ClosestLineLemmas.{line_is_at_own_node, line_noted_at_place, no_more_lines_are_noted}
use Rattle.exact_audit.proofs.closest_lines.note.Goals as goal
use Rattle.exact_audit.proofs.closest_lines.note.Goals.{in-Some+in_ok-push, in_default}

pub loop-index-preserved : goal.loop-index-preserved
loop-index-preserved c =
    let index = c.loop-index.index in
    let prefix = c.args.prefix.now in
    let old = c.loop-index.each.items in
    let grain = c.args.grain in
    let codes = c.args.codes.now.codes.keys in
    let node : node_at grain index ≡ c.unwrap-node.result =
    sym (subst (λ o. IfSome o (λ n. n ≡ node_at grain index)) c.unwrap-node.ensures c.from_index.ensures.some) in
    let at : node_index c.unwrap-node.result ≡ index =
    ap node_index (sym node) ∙ node_index-node_at_place grain index in
    let of_grain : grain ≡ c.unwrap-node.result.grain = ap (λ (n : NodeValue). n.grain) node in
    elim c.match-place_right_above.branch [
      | in-Some+in_ok-push w ↦
          let place = w.in-Some.place in
          let within : place < length old = omega (arith, w.in-Some.ensures.within, c.loop-index.invariant.0) in
          let own : w.index_mut.result.now ≡ get_or old place [] =
          w.index_mut.ensures.value ∙ get_or_default old place w.index_mut.result.now [] within in
          let items : c.match-place_right_above.each.items ≡ set old place (get_or old place [] ++ prefix ∷ []) =
          ap (λ v. v.items) w.each-is
          ∙ ap (set old place) (w.in_ok-push.ensures.ok ∙ ap (λ l. l ++ prefix ∷ []) own) in (
            ap length items ∙ length-set old place (get_or old place [] ++ prefix ∷ []) ∙ c.loop-index.invariant.0,
            λ lines coded placed.
                let own_coded = subst (λ (g : Grain). AreLineCodes g lines codes) of_grain coded in
                subst (λ (g : Grain). IsNotedBefore g (index + 1) lines prefix c.args.each.now.items
                c.match-place_right_above.each.items) (sym of_grain)
                (subst (IsNotedBefore c.unwrap-node.result.grain (index + 1) lines prefix c.args.each.now.items) (sym items)
                (line_noted_at_place c.uppers_are_above.ensures.only index lines codes prefix
                c.unwrap-node.result place c.args.each.now.items old own_coded placed
                (w.in-Some.ensures.some lines own_coded placed) at within
                (subst (λ (g : Grain). IsNotedBefore g index lines prefix c.args.each.now.items old) of_grain
                (c.loop-index.invariant.1 lines coded placed)))),
          )
      | in_default w ↦
          let items : c.match-place_right_above.each.items ≡ old = ap (λ v. v.items) w.each-is in (
            ap length items ∙ c.loop-index.invariant.0,
            λ lines coded placed.
                subst (IsNotedBefore grain (index + 1) lines prefix c.args.each.now.items) (sym items)
                (no_more_lines_are_noted index lines prefix c.args.each.now.items old
                (λ upper there is. w.in_default.ensures.none lines upper
                (subst (λ (g : Grain). AreLineCodes g lines codes) of_grain coded) there
                (subst (λ (n : NodeValue). node_of_prefix n.grain upper ≡ n) node
                (line_is_at_own_node lines codes upper coded there ∙ ap (node_at grain) is)))
                (c.loop-index.invariant.1 lines coded placed)),
          )
    ]
