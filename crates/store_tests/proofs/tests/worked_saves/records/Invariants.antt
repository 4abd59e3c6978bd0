use Rattle.std.proofs.Common.{◌≡◌, length}
use Rattle.store_tests.proofs.tests.worked_saves.records.Given as goal

abbrev pub invariant-loop-record : goal.invariant-loop-record
invariant-loop-record l = length l.list ≡ l._record
