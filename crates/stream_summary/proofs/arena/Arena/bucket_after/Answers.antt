use Rattle.std.proofs.Common.{◌<◌, length, sym, subst}
use Rattle.std.specs.Prelude.{IfSome}
use Rattle.stream_summary.specs.Buckets.{bucket_of, count_of, last_of, free_count}
use Rattle.stream_summary.proofs.StepLemmas.{StepFollowsBucket, step_after, step_begin}
use Rattle.stream_summary.proofs.arena.Arena.bucket_after.Goals as goal

pub returns-in-Some : goal.returns-in-Some
returns-in-Some c =
    let arena = c.args.self.now in
    let room = length arena.buckets.items in
    let count = count_of arena.buckets.items in
    let within = subst (λ o. IfSome o (λ b. b.0 < room)) c.in-Some.is c.requires.within in
    let used = subst (λ o. IfSome o (λ b. count b.0 < free_count)) c.in-Some.is c.requires.used in
    let follows = subst (λ o. StepFollowsBucket count room o c.after.result) (sym c.in-Some.is)
    (step_after (bucket_of arena.slots.items) count (last_of arena.buckets.items) room arena.order.order arena.steps.order c.in-Some.bucket
    c.after.result c.requires.arena.linked within used c.after.ensures) in
    record { within = follows.within; above = follows.above; next = follows.next }

pub returns-in-None : goal.returns-in-None
returns-in-None c =
    let arena = c.args.self.now in
    let room = length arena.buckets.items in
    let count = count_of arena.buckets.items in
    let follows = subst (λ o. StepFollowsBucket count room o c.first.result) (sym c.in-None.is)
    (step_begin (bucket_of arena.slots.items) count (last_of arena.buckets.items) room arena.order.order arena.steps.order c.first.result
    c.requires.arena.linked c.first.ensures) in
    record { within = follows.within; above = follows.above; next = follows.next }
