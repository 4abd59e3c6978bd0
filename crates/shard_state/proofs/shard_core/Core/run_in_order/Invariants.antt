use Rattle.std.proofs.Common.{◌≡◌, take}
use Rattle.shard_state.specs.ShardCore.{core_after_run}
use Rattle.shard_state.proofs.shard_core.Core.run_in_order.Given as goal

-- shards and cuts are those after the events so far
abbrev pub invariant-loop-event : goal.invariant-loop-event
invariant-loop-event l = record {
  shards : l.self ≡ (core_after_run (record { shards = l.initial.self; cuts = l.initial.cuts.items }) (take l.event-index l.events)).shards;
  cuts : l.cuts.items ≡ (core_after_run (record { shards = l.initial.self; cuts = l.initial.cuts.items }) (take l.event-index l.events)).cuts;
}
