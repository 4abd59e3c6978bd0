use Rattle.std.proofs.Common.{◌≢◌, sym, subst}
use Rattle.std.specs.Prelude.{All}
use Rattle.std.proofs.lemmas.List.Elements.{All-from_recursion}
use Rattle.stream_summary.specs.Lists.{Pairwise}
use Rattle.stream_summary.specs.Buckets.{IsBelow, count_of}
use Rattle.stream_summary.proofs.BucketedTakeLemmas.{bucketed_apart_from_bucket}
use Rattle.stream_summary.proofs.arena.Arena.give_back.Goals as goal

pub push-requires-clause-apart : goal.push-requires-clause-apart
push-requires-clause-apart c =
    let stands = c.requires.stands in
    let count = count_of c.args.self.now.buckets.items in
    let left = c.remove.ensures.order stands.front stands.back stands.is in
    subst (All (λ other. other ≢ c.args.bucket.0)) (sym left)
    (All-from_recursion (λ other. other ≢ c.args.bucket.0) _ (bucketed_apart_from_bucket count stands.front c.args.bucket.0 stands.back
    (subst (Pairwise (IsBelow count)) stands.is c.requires.apart)))
