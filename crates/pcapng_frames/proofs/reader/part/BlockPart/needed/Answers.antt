use Rattle.std.proofs.Common.{sym, arith}
use Rattle.pcapng_frames.specs.NgPart.{section_place}
use Rattle.pcapng_frames.proofs.KeptVerdictLemmas.{kept_verdict_needs_more, block_needs-of_kept_verdict, block_needs-of_short_kept_verdict}
use Rattle.pcapng_frames.proofs.reader.part.BlockPart.needed.Goals as goal

pub returns-then-came-lt12-clause-needs : goal.returns-then-came-lt12-clause-needs
returns-then-came-lt12-clause-needs c =
    sym (block_needs-of_short_kept_verdict c.args.self.now.section.order c.args.self.now.kept.came c.args.self.now.kept.first (omega arith))

pub returns-clause-needs : goal.returns-clause-needs
returns-clause-needs c =
    block_needs-of_kept_verdict c.args.self.now.section.order c.args.self.now.kept.came c.args.self.now.kept.first _ _ _ _ _ (omega arith)
    c.first-bytes.ensures.bytes c.u32_at.ensures c.of_type-kind.ensures c.order.ensures c.u32_at-2.ensures

pub returns-clause-more : goal.returns-clause-more
returns-clause-more c =
    let more = kept_verdict_needs_more (section_place c.args.self.now.section) c.args.self.now.kept.came c.args.self.now.kept.first
    c.args.self.now.kept.last c.requires.waits in
    let needs = block_needs-of_kept_verdict c.args.self.now.section.order c.args.self.now.kept.came c.args.self.now.kept.first
    c.first-bytes.result.now c.u32_at.result c.of_type-kind.result c.order.result c.u32_at-2.result (omega arith)
    c.first-bytes.ensures.bytes c.u32_at.ensures c.of_type-kind.ensures c.order.ensures c.u32_at-2.ensures in
    omega (arith, more, needs)
