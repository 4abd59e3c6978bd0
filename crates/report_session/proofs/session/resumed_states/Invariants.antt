use Rattle.std.proofs.Common.{◌≡◌, ◌≤◌, ◌^◌, ◌++◌, length}
use Rattle.std.specs.List.{All, AllZip}
use Rattle.std.specs.Vec.Iter.{into_iter_items}
use Rattle.std.specs.Iterator.Adapters.{zip_first, zip_second}
use Rattle.recovery.specs.{ContinuesList}
use Rattle.shard_state.specs.{IsShard}
use Rattle.report_session.specs.Session.{resumed_shards}
use Rattle.report_session.proofs.session.resumed_states.Given as goal

-- the states so far, and those of the remaining lists and snapshots
abbrev pub invariant-loop-list : goal.invariant-loop-list
invariant-loop-list l = record {
  states : l.states.items ++ resumed_shards (into_iter_items (zip_first l.list-iterator)) (into_iter_items (zip_second l.list-iterator))
      ≡ resumed_shards l.fn.dealt l.fn.cut.shards;
  kept : All IsShard l.states.items;
  continue : AllZip ContinuesList (into_iter_items (zip_second l.list-iterator)) (into_iter_items (zip_first l.list-iterator));
  small : All (λ list. length list ≤ 2 ^ 24) (into_iter_items (zip_first l.list-iterator));
}
