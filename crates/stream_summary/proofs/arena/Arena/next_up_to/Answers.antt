use Rattle.std.proofs.Common.{length}
use Rattle.stream_summary.specs.Buckets.{count_of}
use Rattle.stream_summary.proofs.StepLemmas.{step_none_above}
use Rattle.stream_summary.proofs.arena.Arena.next_up_to.Goals as goal

pub returns-in_default-clause-last : goal.returns-in_default-clause-last
returns-in_default-clause-last c = λ other low fits.
    let arena = c.args.self.now in
    step_none_above (count_of arena.buckets.items) (length arena.buckets.items) c.args.bucket c.in_default.ensures.next other low
