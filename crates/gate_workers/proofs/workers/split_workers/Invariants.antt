use Rattle.std.proofs.Common.{◌≡◌, length}
use Rattle.pass_tokens.specs.{IsPassOf, view}
use Rattle.gate_workers.specs.Running.{EachByNumber, IsSplitOff, after_splits}
use Rattle.gate_workers.proofs.workers.split_workers.Given as goal

-- so far this many passes were split off, one after the other
abbrev pub invariant-loop-worker : goal.invariant-loop-worker
invariant-loop-worker l =
    IsPassOf l.board l.pass
    × (length l.workers.items ≡ l._worker)
    × EachByNumber (λ number. IsSplitOff l.board (after_splits number (view l.initial.pass))) l.workers.items
    × (view l.pass ≡ after_splits l._worker (view l.initial.pass))
