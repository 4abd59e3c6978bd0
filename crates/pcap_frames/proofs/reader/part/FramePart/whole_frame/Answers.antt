use Rattle.std.proofs.Common.{refl, arith}
use Rattle.std.proofs.lemmas.List.{nil_from_length}
use Rattle.pcap_frames.specs.Part.{place_of_part}
use Rattle.pcap_frames.proofs.ReaderStepLemmas.{reader_step_frame_at_front}
use Rattle.pcap_frames.proofs.reader.part.FramePart.whole_frame.Goals as goal

pub returns-clause-takes : goal.returns-clause-takes
returns-clause-takes c =
    reader_step_frame_at_front (place_of_part c.args.self.now) c.args.piece.now _ _ _ c.in_ok-frame.ensures.splits (omega arith)
    (nil_from_length c.args.self.now.kept.first (omega arith)) (omega arith) refl
