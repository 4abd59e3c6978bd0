use Rattle.std.proofs.Common.{◌≡◌, length, take, get_or, All, ap, sym, ◌∙◌, subst, arith}
use Rattle.shard_state.specs.ShardCore.{CoreValue, HasCoreShape, IsCoreEvent, core_shape}
use Rattle.shard_state.specs.declared.event.Event.TheVariants.{Fold}
use Rattle.shard_state.proofs.EventRunLemmas.{event_run_keeps_shapes, event_run_keeps_shards, event_run_keeps_callers}
use Rattle.shard_state.proofs.EventRunLemmas.{event_run_keeps_shape}
use Rattle.shard_state.proofs.shard_core.Core.run_in_order.Goals as goal

pub step-requires-clause-event : goal.step-requires-clause-event
step-requires-clause-event c =
    let start : CoreValue = record { shards = c.args.self.now; cuts = c.args.cuts.now.items } in
    let so_far = take c.loop-event.event-index c.args.events.now in
    let event = get_or c.args.events.now c.loop-event.event-index (Fold 0 0) in
    let many : length c.loop-event.self ≡ length start.shards = ap length c.loop-event.invariant.shards ∙ event_run_keeps_shards so_far start in
    let callers : length c.loop-event.cuts.items ≡ length start.cuts = ap length c.loop-event.invariant.cuts ∙ event_run_keeps_callers so_far start in
    subst (λ m. IsCoreEvent m (length c.loop-event.cuts.items) event) (sym many)
    (subst (λ n. IsCoreEvent (length start.shards) n event) (sym callers) (c.requires.events c.loop-event.event-index (Fold 0 0) (omega arith)))

pub step-requires-clause-cuts : goal.step-requires-clause-cuts
step-requires-clause-cuts c =
    let start : CoreValue = record { shards = c.args.self.now; cuts = c.args.cuts.now.items } in
    let so_far = take c.loop-event.event-index c.args.events.now in
    let many : length c.loop-event.self ≡ length start.shards = ap length c.loop-event.invariant.shards ∙ event_run_keeps_shards so_far start in
    let shape : core_shape c.loop-event.self ≡ core_shape start.shards = ap core_shape c.loop-event.invariant.shards
    ∙ event_run_keeps_shape so_far start in
    subst (λ m. All (HasCoreShape m (core_shape c.loop-event.self)) c.loop-event.cuts.items) (sym many)
    (subst (λ n. All (HasCoreShape (length start.shards) n) c.loop-event.cuts.items) (sym shape)
    (subst (All (HasCoreShape (length start.shards) (core_shape start.shards))) (sym c.loop-event.invariant.cuts)
    (event_run_keeps_shapes so_far start (length start.shards) (core_shape start.shards) c.requires.cuts)))
