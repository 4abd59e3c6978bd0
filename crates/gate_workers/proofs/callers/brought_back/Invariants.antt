use Rattle.std.proofs.Common.{◌≡◌, ◌++◌}
use Rattle.std.specs.List.{AllZip}
use Rattle.std.specs.Vec.Iter.{into_iter_items}
use Rattle.gate_workers.specs.Running.{BringsBack}
use Rattle.gate_workers.proofs.callers.brought_back.Given as goal

-- so far each of the callers that were met brought back what it did
abbrev pub invariant-loop-caller : goal.invariant-loop-caller
invariant-loop-caller l =
    (l.fn.callers.items ≡ l.yielded ++ into_iter_items l.caller-iterator)
    × AllZip BringsBack l.yielded l.called.items
