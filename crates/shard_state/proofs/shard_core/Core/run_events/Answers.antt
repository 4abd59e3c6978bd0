use Rattle.std.proofs.Common.{◌≡◌, length, slice_get, All, ap, sym, ◌∙◌, subst}
use Rattle.shard_state.specs.ShardCore.{CoreValue, HasCoreShape, core_shape, snapshot_in}
use Rattle.shard_state.proofs.EventRunLemmas.{latest_snapshot-after_event_run, event_run_reads_never_fall}
use Rattle.shard_state.proofs.EventRunLemmas.{event_run_tells_last_read, event_run_cut_stands, event_run_keeps_shapes}
use Rattle.shard_state.proofs.EventRunLemmas.{event_run_keeps_shards, event_run_keeps_callers, event_run_keeps_shape}
use Rattle.shard_state.proofs.EventRunLemmas.{event_run_shard_within}
use Rattle.shard_state.proofs.shard_core.Core.run_events.Goals as goal

pub returns-clause-latest : goal.returns-clause-latest
returns-clause-latest c = λ caller shard state before is holds.
    let start : CoreValue = record { shards = c.args.self.now; cuts = c.args.cuts.now.items } in
    ap (snapshot_in caller shard) c.run_in_order.ensures.cuts
    ∙ latest_snapshot-after_event_run c.args.events.now start caller shard state before is
    (event_run_shard_within start shard state c.keeps.ensures.kept is) holds

pub returns-clause-last_reads : goal.returns-clause-last_reads
returns-clause-last_reads c = λ caller shard position cut in_shards is_cut last.
    let start : CoreValue = record { shards = c.args.self.now; cuts = c.args.cuts.now.items } in
    event_run_tells_last_read c.args.events.now start caller shard position cut c.keeps.ensures.kept c.requires.cuts in_shards
    (ap (λ cuts. slice_get cuts caller) (sym c.run_in_order.ensures.cuts) ∙ is_cut) last

pub returns-clause-never_fall : goal.returns-clause-never_fall
returns-clause-never_fall c = λ caller shard state is.
    let start : CoreValue = record { shards = c.args.self.now; cuts = c.args.cuts.now.items } in
    event_run_reads_never_fall c.args.events.now start caller shard state is (event_run_shard_within start shard state c.keeps.ensures.kept is)

pub returns-clause-stands : goal.returns-clause-stands
returns-clause-stands c = λ bases caller cut is_cut reads.
    let start : CoreValue = record { shards = c.args.self.now; cuts = c.args.cuts.now.items } in
    event_run_cut_stands c.args.events.now start caller cut c.keeps.ensures c.requires.cuts bases
    (ap (λ cuts. slice_get cuts caller) (sym c.run_in_order.ensures.cuts) ∙ is_cut) reads

pub returns-clause-shards_stay : goal.returns-clause-shards_stay
returns-clause-shards_stay c =
    let start : CoreValue = record { shards = c.args.self.now; cuts = c.args.cuts.now.items } in
    ap length c.run_in_order.ensures.shards ∙ event_run_keeps_shards c.args.events.now start

pub returns-clause-callers_stay : goal.returns-clause-callers_stay
returns-clause-callers_stay c =
    let start : CoreValue = record { shards = c.args.self.now; cuts = c.args.cuts.now.items } in
    ap length c.run_in_order.ensures.cuts ∙ event_run_keeps_callers c.args.events.now start

pub returns-clause-shapes : goal.returns-clause-shapes
returns-clause-shapes c =
    let start : CoreValue = record { shards = c.args.self.now; cuts = c.args.cuts.now.items } in
    let events = c.args.events.now in
    let left = c.run_in_order.new.self in
    let many : length left ≡ length start.shards = ap length c.run_in_order.ensures.shards ∙ event_run_keeps_shards events start in
    let shape : core_shape left ≡ core_shape start.shards = ap core_shape c.run_in_order.ensures.shards ∙ event_run_keeps_shape events start in
    subst (λ m. All (HasCoreShape m (core_shape left)) c.run_in_order.new.cuts.items) (sym many)
    (subst (λ n. All (HasCoreShape (length start.shards) n) c.run_in_order.new.cuts.items) (sym shape)
    (subst (All (HasCoreShape (length start.shards) (core_shape start.shards))) (sym c.run_in_order.ensures.cuts)
    (event_run_keeps_shapes events start (length start.shards) (core_shape start.shards) c.requires.cuts)))
