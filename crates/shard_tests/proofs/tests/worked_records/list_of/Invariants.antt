use Rattle.std.proofs.Common.{◌≡◌, take}
use Rattle.shard_tests.proofs.tests.worked_records.list_of.Given as goal

-- the records so far
abbrev pub invariant-loop-rec : goal.invariant-loop-rec
invariant-loop-rec l = l.list ≡ take l.rec-index l.records
