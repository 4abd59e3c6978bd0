use Rattle.std.proofs.Common.{◌≡◌, length, sym, ap, ◌∙◌, arith}
use Rattle.pcap_frames.specs.Header.{header_fault, order_of_magic}
use Rattle.pcap_frames.proofs.FileHeaderLemmas.{file_header_has_magic}
use Rattle.pcap_frames.proofs.ReaderStepLemmas.{reader_step_to_header_fault, reader_step_ends_header}
use Rattle.pcap_frames.proofs.ReaderStepLemmas.{bytes_needed-empty_reader_step}
use Rattle.pcap_frames.proofs.reader.part.FramePart.leave_header.Goals as goal

pub returns-in-Some-clause-advances : goal.returns-in-Some-clause-advances
returns-in-Some-clause-advances c = λ kept front is size.
    reader_step_to_header_fault kept front _ c.in-Some.fault is (omega arith)
    (ap header_fault (sym c.first-header.ensures.bytes) ∙ sym c.header_fault.ensures ∙ c.in-Some.is)

pub unreachable-requires : goal.unreachable-requires
unreachable-requires c =
    file_header_has_magic c.first-header.result.now c.if-header-lt24.false (sym c.header_fault.ensures ∙ c.in_default.is)
    (sym c.magic_order.ensures ∙ c.in_default-magic_order.is)

pub returns-clause-sound : goal.returns-clause-sound
returns-clause-sound c =
    let none =
    bytes_needed-empty_reader_step c.in-Some-magic_order.order c.new-self.result.first (ap (λ k. k.first) c.new-self.ensures) in
    let came : c.new-self.result.came ≡ 0 = ap (λ k. k.came) c.new-self.ensures in
    record { count = omega arith; place = omega arith; cut = omega arith; bound = omega arith }

pub returns-clause-advances : goal.returns-clause-advances
returns-clause-advances c = λ kept front is size. rw c.new-self.ensures (
    reader_step_ends_header kept front _ c.in-Some-magic_order.order is (omega (arith, ap length c.first-header.ensures.bytes))
    (ap header_fault (sym c.first-header.ensures.bytes) ∙ sym c.header_fault.ensures ∙ c.in_default.is)
    (ap order_of_magic (sym c.first-header.ensures.bytes) ∙ sym c.magic_order.ensures ∙ c.in-Some-magic_order.is))
