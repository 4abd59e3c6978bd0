use Rattle.std.proofs.Common.{◌≡◌, length, All}
use Rattle.pass_tokens.specs.{IsPassOf, newcomer_view, view}
use Rattle.gate_workers.specs.Running.{CanCall, EachByNumber, after_splits}
use Rattle.gate_workers.proofs.callers.split_callers.Given as goal

-- so far this many callers were made, one after the other
abbrev pub invariant-loop-caller : goal.invariant-loop-caller
invariant-loop-caller l =
    IsPassOf l.board l.pass
    × (length l.callers.items ≡ l._caller)
    × All (CanCall l.board) l.callers.items
    × EachByNumber (λ number caller. view caller.pass ≡ newcomer_view (after_splits number (view l.initial.pass)))
    l.callers.items
    × (view l.pass ≡ after_splits l._caller (view l.initial.pass))
