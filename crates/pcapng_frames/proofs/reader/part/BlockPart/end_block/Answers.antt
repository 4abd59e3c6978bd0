use Rattle.std.proofs.Common.{ap, ◌∙◌, arith}
use Rattle.pcapng_frames.specs.Section.{SectionPlace}
use Rattle.pcapng_frames.specs.NgPart.{section_place}
use Rattle.pcapng_frames.proofs.KeptVerdictLemmas.{kept_verdict_has_room}
use Rattle.pcapng_frames.proofs.NgStepLemmas.{ng_step_has_fields, ng_step_names_interface, ng_step_holds, ng_step_starts_block}
use Rattle.pcapng_frames.proofs.reader.part.BlockPart.end_block.Goals as goal

pub end_block-requires-clause-room : goal.end_block-requires-clause-room
end_block-requires-clause-room c =
    kept_verdict_has_room (section_place c.args.self.now.section) c.args.self.now.kept.came c.args.self.now.kept.first
    c.args.self.now.kept.last c.requires.whole c.requires.within.count

pub end_block-requires-clause-least : goal.end_block-requires-clause-least
end_block-requires-clause-least c =
    ng_step_has_fields (section_place c.args.self.now.section) c.args.self.now.kept c.first.result.now c.requires.whole
    c.first.ensures.bytes c.first.ensures.length

pub end_block-requires-clause-named : goal.end_block-requires-clause-named
end_block-requires-clause-named c =
    ng_step_names_interface (section_place c.args.self.now.section) c.args.self.now.kept c.first.result.now c.requires.whole
    c.first.ensures.bytes

pub returns-then-not-gives-clause-within : goal.returns-then-not-gives-clause-within
returns-then-not-gives-clause-within c =
    let count = ap (λ (s : SectionPlace). s.count) c.in_ok-gives.ensures.after in
    record {
      section = c.in_ok-gives.ensures.within;
      frames = omega (arith, count, c.requires.frames);
      waits = ng_step_starts_block (section_place c.end_block.new.self) c.replace-kept.new.dest (c.replace-kept.ensures.after ∙ c.new.ensures);
    }

pub invariant_of-result : goal.invariant_of-result
invariant_of-result c =
    let holds = ng_step_holds (section_place c.args.self.now.section) c.args.self.now.kept c.first.result.now c.in_ok-gives.gives
    c.requires.whole c.first.ensures.bytes (omega (arith, c.first.ensures.length)) c.in_ok-gives.ensures.gives c.if-not-gives.false in
    let kept = ap (λ k. k.first) c.replace-kept.ensures.value in
    record { header = rw kept holds.header; limit = rw kept holds.limit; head = rw kept holds.head }

pub returns-clause-within : goal.returns-clause-within
returns-clause-within c =
    let count = ap (λ (s : SectionPlace). s.count) c.in_ok-gives.ensures.after in
    record {
      section = c.in_ok-gives.ensures.within;
      frames = omega (arith, count, c.requires.frames);
      waits = ng_step_starts_block (section_place c.end_block.new.self) c.replace-kept.new.dest (c.replace-kept.ensures.after ∙ c.new.ensures);
    }
