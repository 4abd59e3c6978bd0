use Rattle.std.proofs.Common.{sym, subst, arith, inr, Err}
use Rattle.pcapng_frames.specs.NgPart.{place_of_part}
use Rattle.pcap_frames.specs.{IsFinalResult}
use Rattle.pcapng_frames.specs.NgCapture.{pcapng}
use Rattle.pcapng_frames.proofs.NgStepLemmas.{ng_step_ends_capture, ng_step_ends_in_block}
use Rattle.pcapng_frames.proofs.reader.part.BlockPart.end.Goals as goal

pub returns-then-self-eq0 : goal.returns-then-self-eq0
returns-then-self-eq0 c = λ file frames stands.
    subst (λ fault. IsFinalResult pcapng file frames (Err fault)) (sym c.cut-then-self-eq0.ensures)
    (ng_step_ends_in_block (place_of_part c.args.self.now) file frames stands (inr c.if-self-eq0.true))

pub returns : goal.returns
returns c = λ file frames stands.
    ng_step_ends_capture (place_of_part c.args.self.now) file frames stands (omega arith) (omega arith)
