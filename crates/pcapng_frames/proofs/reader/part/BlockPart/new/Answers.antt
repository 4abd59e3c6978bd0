use Rattle.std.proofs.Common.{ap, arith}
use Rattle.pcapng_frames.specs.Section.{SectionPlace}
use Rattle.pcapng_frames.specs.NgPart.{section_place}
use Rattle.pcapng_frames.proofs.NgStepLemmas.{ng_step_starts_block}
use Rattle.pcapng_frames.proofs.reader.part.BlockPart.new.Goals as goal

pub returns-clause-within : goal.returns-clause-within
returns-clause-within c =
    let count = ap (λ (s : SectionPlace). s.count) c.new.ensures in
    let place = ap (λ (s : SectionPlace). s.place) c.new.ensures in
    record {
      section = record { count = omega (arith, count); place = omega (arith, place) };
      frames = omega arith;
      waits = ng_step_starts_block (section_place c.new.result) c.new-2.result c.new-2.ensures;
    }
