use Rattle.std.specs.Prelude.{IfSome}
use Rattle.std.proofs.Common.{◌<◌, ◌≡◌, length, subst}
use Rattle.stream_summary.specs.Buckets.{count_of, free_count}
use Rattle.stream_summary.proofs.FreeBucketLemmas.{last_bucket_exists, last_bucket_is_free}
use Rattle.stream_summary.proofs.arena.Arena.free_bucket.Goals as goal

pub unwrap-requires : goal.unwrap-requires
unwrap-requires c = last_bucket_exists c.args.self.now c.last.result c.requires.arena c.requires.free c.last.ensures

pub returns : goal.returns
returns c =
    let bs = c.args.self.now.buckets.items in
    let told = subst (λ o. IfSome o (λ last. (last.0 < length bs) × (count_of bs last.0 ≡ free_count))) c.unwrap.ensures
    (last_bucket_is_free c.args.self.now c.last.result c.requires.arena c.requires.free c.last.ensures) in
    record { within = told.0; free = told.1 }
