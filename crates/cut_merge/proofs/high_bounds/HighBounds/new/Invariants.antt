use Rattle.std.proofs.Common.{◌≡◌, length}
use Rattle.cut_merge.proofs.high_bounds.HighBounds.new.Given as goal

-- the cells so far
abbrev pub invariant-loop : goal.invariant-loop
invariant-loop l = length l.cells.items ≡ l.counter
