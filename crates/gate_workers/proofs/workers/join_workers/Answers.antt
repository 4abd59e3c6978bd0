use Rattle.std.proofs.Common.{ap, sym, subst, ◌∙◌, All, fold, map}
use Rattle.std.specs.Vec.Iter.{into_iter_items}
use Rattle.std.proofs.lemmas.List.Elements.{All-tail}
use Rattle.pass_tokens.specs.{IsPassOf, after_join, view}
use Rattle.gate_workers.proofs.workers.join_workers.Goals as goal

pub loop-worker-preserved : goal.loop-worker-preserved
loop-worker-preserved c =
    let kept = c.loop-worker.invariant in
    let rest = into_iter_items c.next.new.self in
    let steps = c.in-Some.ensures.steps.0 in
    let board = c.args.board.now in (
      c.join.ensures.pass,
      All-tail (IsPassOf board) c.in-Some.worker rest (subst (All (IsPassOf board)) steps kept.1),
      ap (λ v. fold after_join v (map view rest)) c.join.ensures.join
          ∙ sym (ap (λ passes. fold after_join (view c.loop-worker.pass) (map view passes)) steps) ∙ kept.2,
    )
