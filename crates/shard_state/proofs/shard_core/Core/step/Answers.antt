use Rattle.std.proofs.Common.{◌≡◌, length, All, ap, sym, ◌∙◌, subst}
use Rattle.shard_state.specs.ShardCore.{CoreValue, HasCoreShape, ShardMovedOn, core_shape}
use Rattle.shard_state.proofs.EventLemmas.{shapes_after_event, shards_as_many_after_event, callers_after_event}
use Rattle.shard_state.proofs.EventLemmas.{shape_after_event, event_moves_shard_on}
use Rattle.shard_state.proofs.EventRunLemmas.{event_run_shard_within}
use Rattle.shard_state.proofs.shard_core.Core.step.Goals as goal

pub returns-clause-moved_on : goal.returns-clause-moved_on
returns-clause-moved_on c = λ shard state is.
    let start : CoreValue = record { shards = c.args.self.now; cuts = c.args.cuts.now.items } in
    subst (λ shards. ShardMovedOn shards shard state) (sym c.act.ensures.shards)
    (event_moves_shard_on start c.args.event shard state is (event_run_shard_within start shard state c.keeps.ensures.kept is))

pub returns-clause-shards_stay : goal.returns-clause-shards_stay
returns-clause-shards_stay c =
    let start : CoreValue = record { shards = c.args.self.now; cuts = c.args.cuts.now.items } in
    ap length c.act.ensures.shards ∙ shards_as_many_after_event start c.args.event

pub returns-clause-callers_stay : goal.returns-clause-callers_stay
returns-clause-callers_stay c =
    let start : CoreValue = record { shards = c.args.self.now; cuts = c.args.cuts.now.items } in
    ap length c.act.ensures.cuts ∙ callers_after_event start c.args.event

pub returns-clause-shapes : goal.returns-clause-shapes
returns-clause-shapes c =
    let start : CoreValue = record { shards = c.args.self.now; cuts = c.args.cuts.now.items } in
    let left = c.act.new.self in
    let many : length left ≡ length start.shards = ap length c.act.ensures.shards ∙ shards_as_many_after_event start c.args.event in
    let shape : core_shape left ≡ core_shape start.shards = ap core_shape c.act.ensures.shards ∙ shape_after_event start c.args.event in
    subst (λ m. All (HasCoreShape m (core_shape left)) c.act.new.cuts.items) (sym many)
    (subst (λ n. All (HasCoreShape (length start.shards) n) c.act.new.cuts.items) (sym shape)
    (subst (All (HasCoreShape (length start.shards) (core_shape start.shards))) (sym c.act.ensures.cuts)
    (shapes_after_event start c.args.event (length start.shards) (core_shape start.shards) c.requires.cuts)))
