use Rattle.std.proofs.Common.{◌++◌, ◌∙◌, ap, ap₂, arith, length, length-append, sym}
use Rattle.traffic_maker.proofs.MadeFrameLemmas.{one_made_frame_more}
use Rattle.traffic_maker.proofs.piece.Piece.fill.Goals as goal

pub loop-index-preserved : goal.loop-index-preserved
loop-index-preserved c =
    let held = c.loop-index.invariant in
    let frame = c.next_frame.ensures in
    record {
      long = omega (arith, held.long, ap length c.push.ensures, length-append c.loop-index.self c.next_frame.result);
      made = λ seed start. c.push.ensures
          ∙ ap₂ (λ before last. before ++ last) (held.made seed start) (frame.made seed (held.drawn seed start))
          ∙ sym (one_made_frame_more seed c.args.first c.loop-index.index (omega arith));
      drawn = λ seed start. frame.drawn seed (held.drawn seed start);
    }
