use Rattle.std.proofs.Common.{sym, ◌∙◌}
use Rattle.pcapng_frames.specs.NgPart.{section_place}
use Rattle.pcapng_frames.proofs.NgStepLemmas.{ng_step_verdict, ng_step_still_waits, ng_step_shows_fault, ng_step_is_whole}
use Rattle.pcapng_frames.proofs.reader.part.BlockPart.leave_block.Goals as goal

pub returns-in-Waits-clause-advances : goal.returns-in-Waits-clause-advances
returns-in-Waits-clause-advances c = λ kept front is needs.
    let section = section_place c.args.self.now.section in
    let verdict = ng_step_verdict section c.args.self.now.kept c.came.result c.first.result.now c.last.result.now c.came.ensures.count
    c.first.ensures.bytes c.last.ensures.bytes in
    ng_step_still_waits (record { section = section; frames = c.args.self.now.frames; kept = kept }) c.args.self.now.kept front is
    (sym verdict ∙ sym c.verdict_of-verdict.ensures ∙ c.in-Waits.is) needs

pub returns-in-IsWrong-clause-advances : goal.returns-in-IsWrong-clause-advances
returns-in-IsWrong-clause-advances c = λ kept front is needs.
    let section = section_place c.args.self.now.section in
    let verdict = ng_step_verdict section c.args.self.now.kept c.came.result c.first.result.now c.last.result.now c.came.ensures.count
    c.first.ensures.bytes c.last.ensures.bytes in
    ng_step_shows_fault (record { section = section; frames = c.args.self.now.frames; kept = kept }) c.args.self.now.kept front
    c.in-IsWrong.kind is (sym verdict ∙ sym c.verdict_of-verdict.ensures ∙ c.in-IsWrong.is) needs

pub returns-in_ok-held-in-IsWhole-clause-advances : goal.returns-in_ok-held-in-IsWhole-clause-advances
returns-in_ok-held-in-IsWhole-clause-advances c = λ kept front is needs.
    let section = section_place c.args.self.now.section in
    let verdict = ng_step_verdict section c.args.self.now.kept c.came.result c.first.result.now c.last.result.now c.came.ensures.count
    c.first.ensures.bytes c.last.ensures.bytes in
    ng_step_is_whole (record { section = section; frames = c.args.self.now.frames; kept = kept }) _ c.args.self.now.kept front _ is
    (sym verdict ∙ sym c.verdict_of-verdict.ensures ∙ c.in-IsWhole.is) needs c.in_ok-held-in-IsWhole.ensures.place
    c.in_ok-held-in-IsWhole.ensures.gives
