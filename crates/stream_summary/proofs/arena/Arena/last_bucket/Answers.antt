use Rattle.std.proofs.Common.{◌≤◌, sym, subst}
use Rattle.stream_summary.specs.Buckets.{count_of}
use Rattle.stream_summary.proofs.ReadIndexLemmas.{read_last_count_within}
use Rattle.stream_summary.proofs.arena.Arena.last_bucket.Goals as goal

pub returns-in-Some-clause-counts : goal.returns-in-Some-clause-counts
returns-in-Some-clause-counts c = λ limit all.
    subst (λ n. count_of c.args.self.now.buckets.items n ≤ limit) (sym c.bucket_of.ensures)
    (read_last_count_within c.args.self.now c.in-Some.number.0 limit c.in-Some.ensures all)
