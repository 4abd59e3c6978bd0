use Rattle.std.proofs.Common.{◌≡◌, None, sym, ap, ◌∙◌, arith}
use Rattle.pcap_frames.specs.Frame.{bytes_needed, frame_fault}
use Rattle.pcap_frames.proofs.ReaderStepLemmas.{reader_step_to_frame_fault, reader_step_in_frame}
use Rattle.pcap_frames.proofs.ReaderStepLemmas.{reader_step_ends_frame, bytes_needed-empty_reader_step}
use Rattle.pcap_frames.proofs.ReaderStepLemmas.{bytes_needed-reader_step_bound, reader_step_at_right_frame}
use Rattle.pcap_frames.proofs.ReaderStepLemmas.{reader_step_held_frame_fits}
use Rattle.pcap_frames.proofs.reader.part.FramePart.leave_frame.Goals as goal

pub returns-in-Some-clause-advances : goal.returns-in-Some-clause-advances
returns-in-Some-clause-advances c = λ kept front came is size.
    reader_step_to_frame_fault _ front _ c.in-Some.fault is
    (ap (frame_fault c.args.self.now.order c.args.self.now.count c.args.self.now.place)
    (sym c.first-bytes.ensures.bytes) ∙ sym c.frame_fault.ensures ∙ c.in-Some.is)

pub returns-then-came-size-clause-sound : goal.returns-then-came-size-clause-sound
returns-then-came-size-clause-sound c =
    let size : c.needed-size.result ≡ bytes_needed c.args.self.now.order c.args.self.now.kept.first =
    c.needed-size.ensures ∙ ap (bytes_needed c.args.self.now.order) c.first-bytes.ensures.bytes in
    let bound =
    bytes_needed-reader_step_bound c.args.self.now.order c.args.self.now.count c.args.self.now.place c.first-bytes.result.now
    (sym c.frame_fault.ensures ∙ c.in_default.is) in
    record { count = c.requires.count; place = c.requires.place; cut = omega arith; bound = omega arith }

pub returns-then-came-size-clause-advances : goal.returns-then-came-size-clause-advances
returns-then-came-size-clause-advances c = λ kept front came is total.
    let size : c.needed-size.result ≡ bytes_needed c.args.self.now.order c.args.self.now.kept.first =
    c.needed-size.ensures ∙ ap (bytes_needed c.args.self.now.order) c.first-bytes.ensures.bytes in
    reader_step_in_frame _ front _ _ is total
    (ap (frame_fault c.args.self.now.order c.args.self.now.count c.args.self.now.place)
    (sym c.first-bytes.ensures.bytes) ∙ sym c.frame_fault.ensures ∙ c.in_default.is)
    (omega arith)

pub overflow_add-self-2 : goal.overflow_add-self-2
overflow_add-self-2 c =
    let bound =
    bytes_needed-reader_step_bound c.args.self.now.order c.args.self.now.count c.args.self.now.place c.first-bytes.result.now
    (sym c.frame_fault.ensures ∙ c.in_default.is) in
    omega (arith, bound, c.needed-size.ensures, c.requires.count, c.requires.place)

pub invariant_of-held : goal.invariant_of-held
invariant_of-held c =
    let kept = ap (λ k. k.first) c.replace-kept.ensures.value in
    let same = c.first-bytes.ensures.bytes ∙ sym kept in
    let fits =
    reader_step_held_frame_fits c.args.self.now.order c.args.self.now.count c.args.self.now.place c.args.self.now.kept.came
    c.first-bytes.result.now (sym c.frame_fault.ensures ∙ c.in_default.is) c.first-bytes.ensures.length
    (omega arith) in
    record { header = rw same at fits.0; limit = rw same at fits.1; head = rw same at fits.2 }

pub returns-clause-sound : goal.returns-clause-sound
returns-clause-sound c =
    let empty = c.replace-kept.ensures.after ∙ c.new.ensures in
    let size : c.needed-size.result ≡ bytes_needed c.args.self.now.order c.first-bytes.result.now = c.needed-size.ensures in
    let none = bytes_needed-empty_reader_step c.args.self.now.order c.replace-kept.new.dest.first (ap (λ k. k.first) empty) in
    let came : c.replace-kept.new.dest.came ≡ 0 = ap (λ k. k.came) empty in
    let shown : frame_fault c.args.self.now.order c.args.self.now.count c.args.self.now.place
    c.first-bytes.result.now ≡ None =
    sym c.frame_fault.ensures ∙ c.in_default.is in
    let bound =
    bytes_needed-reader_step_bound c.args.self.now.order c.args.self.now.count c.args.self.now.place c.first-bytes.result.now
    shown in
    let fits =
    reader_step_held_frame_fits c.args.self.now.order c.args.self.now.count c.args.self.now.place c.args.self.now.kept.came
    c.first-bytes.result.now shown c.first-bytes.ensures.length (omega arith) in
    let room =
    (reader_step_at_right_frame c.args.self.now.order c.args.self.now.count c.args.self.now.place c.first-bytes.result.now
    shown fits.0).0 in
    record { count = omega arith; place = omega arith; cut = omega arith; bound = omega arith }

pub returns-clause-advances : goal.returns-clause-advances
returns-clause-advances c = λ kept front came is total.
    let size : c.needed-size.result ≡ bytes_needed c.args.self.now.order c.args.self.now.kept.first =
    c.needed-size.ensures ∙ ap (bytes_needed c.args.self.now.order) c.first-bytes.ensures.bytes in
    rw (c.replace-kept.ensures.after, c.new.ensures, c.replace-kept.ensures.value) (
    reader_step_ends_frame _ front _ _ _ is total
    (ap (frame_fault c.args.self.now.order c.args.self.now.count c.args.self.now.place)
    (sym c.first-bytes.ensures.bytes) ∙ sym c.frame_fault.ensures ∙ c.in_default.is)
    (omega arith) size)
