use Rattle.std.proofs.Common.{◌≡◌, ◌≤◌, ◌^◌, ◌++◌, length}
use Rattle.std.specs.List.{All}
use Rattle.std.specs.Vec.Iter.{into_iter_items}
use Rattle.shard_state.specs.{IsShard}
use Rattle.report_session.specs.Session.{new_shards, asked_shape}
use Rattle.report_session.proofs.session.new_states.Given as goal

-- the states of the lists so far
abbrev pub invariant-loop-list : goal.invariant-loop-list
invariant-loop-list l = record {
  parted : l.fn.dealt ≡ l.yielded ++ into_iter_items l.list-iterator;
  states : l.states.items ≡ new_shards (asked_shape l.settings) l.yielded;
  kept : All IsShard l.states.items;
  small : All (λ list. length list ≤ 2 ^ 24) (into_iter_items l.list-iterator);
}
