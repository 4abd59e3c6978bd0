use Rattle.std.proofs.Common.{◌≡◌, sym, ap, ◌∙◌, arith, take-append-drop}
use Rattle.pcap_frames.specs.FileOrder.{number_in_order}
use Rattle.pcap_frames.proofs.FileNumberLemmas.{number_in_order-in_file_front}
use Rattle.pcap_frames.proofs.reader.framing.whole_at.Goals as goal

pub frame_at-requires-clause-limit : goal.frame_at-requires-clause-limit
frame_at-requires-clause-limit c =
    let read : number_in_order c.args.order 4 8 c.split_at.result.0.now ≡ c.u32_at-captured.result =
    ap (number_in_order c.args.order 4 8) c.split_at.ensures.front
    ∙ number_in_order-in_file_front c.args.order 4 8 _ c.args.bytes.now (omega arith) ∙ sym c.u32_at-captured.ensures in
    omega arith

pub frame_at-requires-clause-head : goal.frame_at-requires-clause-head
frame_at-requires-clause-head c =
    let read : number_in_order c.args.order 4 8 c.split_at.result.0.now ≡ c.u32_at-captured.result =
    ap (number_in_order c.args.order 4 8) c.split_at.ensures.front
    ∙ number_in_order-in_file_front c.args.order 4 8 _ c.args.bytes.now (omega arith) ∙ sym c.u32_at-captured.ensures in
    omega arith

pub returns-clause-splits : goal.returns-clause-splits
returns-clause-splits c =
    let read : number_in_order c.args.order 4 8 c.split_at.result.0.now ≡ c.u32_at-captured.result =
    ap (number_in_order c.args.order 4 8) c.split_at.ensures.front
    ∙ number_in_order-in_file_front c.args.order 4 8 _ c.args.bytes.now (omega arith) ∙ sym c.u32_at-captured.ensures in
    record {
      front = c.split_at.result.0.now;
      joined = grind (arith, take-append-drop);
      header = omega arith;
      limit = omega arith;
      whole = omega arith;
      frame_is = c.frame_at.ensures.content;
    }
