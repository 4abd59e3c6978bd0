use Rattle.std.proofs.Common.{◌∙◌, None, Some, false, subst}
use Rattle.traffic_maker.specs.{made_capture}
use Rattle.hhh_engine.specs.Reading.{HasNoText}
use Rattle.hhh_engine.proofs.DemoLemmas.{demo_capture_is_never_refused}
use Rattle.hhh_engine.proofs.commands.demo.made_records.Goals as goal

pub unreachable-requires : goal.unreachable-requires
unreachable-requires c =
    let made = c.made_captures_are_captures.ensures c.args.seed c.args.frames c.requires.1 in
    let file = made_capture c.args.seed c.args.frames in
    let same = c.new-capture.ensures ∙ c.in_ok-make_bytes.ensures in
    demo_capture_is_never_refused (λ front file gives fault. c.files_are_read_or_refused.ensures.never_both front file gives.0 gives.1 fault gives.2)
    file c.in-Err.status (made.0, None, made.1)
    (subst (λ bytes. HasNoText false (Some bytes) 0 0 c.in-Err.status) same c.in-Err.ensures.refused)
    c.in_default.not-OutOfMemory
