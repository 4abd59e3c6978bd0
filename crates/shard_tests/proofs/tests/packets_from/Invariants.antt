use Rattle.std.proofs.Common.{◌≡◌, length}
use Rattle.shard_tests.proofs.tests.packets_from.Given as goal

-- as many records so far as packets
abbrev pub invariant-loop-packet : goal.invariant-loop-packet
invariant-loop-packet l = length l.list ≡ l.packet-index
