use Rattle.std.proofs.Common.{◌≡◌, All, fold, map}
use Rattle.std.specs.Vec.Iter.{into_iter_items}
use Rattle.pass_tokens.specs.{IsPassOf, after_join, view}
use Rattle.gate_workers.proofs.workers.join_workers.Given as goal

-- joining the remaining passes completes the fold
abbrev pub invariant-loop-worker : goal.invariant-loop-worker
invariant-loop-worker l =
    IsPassOf l.board l.pass
    × All (IsPassOf l.board) (into_iter_items l.worker-iterator)
    × (fold after_join (view l.pass) (map view (into_iter_items l.worker-iterator))
    ≡ fold after_join (view l.fn.pass) (map view l.fn.workers.items))
