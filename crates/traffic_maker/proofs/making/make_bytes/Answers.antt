use Rattle.std.proofs.Common.{◌++◌, ◌∙◌, ap, ap₂, arith, length, length-append, sym}
use Rattle.traffic_maker.specs.Making.{capture_header}
use Rattle.traffic_maker.proofs.MadeFrameLemmas.{capture_of_no_made_frames, capture_of_next_made_frame}
use Rattle.traffic_maker.proofs.making.make_bytes.Goals as goal

pub loop-index-init : goal.loop-index-init
unfolding capture_header
loop-index-init c =
    let empty = c.in_ok-bytes.ensures.items in
    let header = c.append.ensures.items ∙ ap (λ before. before ++ capture_header) empty in
    record {
      room = omega (arith, c.in_ok-bytes.ensures.capacity, c.append.ensures.capacity);
      long = ap length header;
      made = header ∙ sym (capture_of_no_made_frames c.args.seed);
      drawn = c.from_seed-draws.ensures;
    }

pub loop-index-preserved : goal.loop-index-preserved
loop-index-preserved c =
    let held = c.loop-index.invariant in
    let index = c.loop-index.index in
    let appended = c.append-in-loop-index.ensures in
    record {
      room = omega (arith, held.room, appended.capacity);
      long = omega (arith, held.long, ap length appended.items, length-append c.loop-index.bytes.items c.next_frame.result);
      made = appended.items ∙ ap₂ (λ before last. before ++ last) held.made (c.next_frame.ensures.made _ held.drawn)
          ∙ sym (capture_of_next_made_frame c.args.seed index);
      drawn = c.next_frame.ensures.drawn _ held.drawn;
    }
