use Rattle.std.proofs.Common.{◌≡◌, length}
use Rattle.outside_io.proofs.SentTextLemmas.{IsSentText}
use Rattle.outside_io.proofs.writing.write_all.Given as goal

-- the bytes sent and the rest make up the text, and no call failed
abbrev pub invariant-loop-rest : goal.invariant-loop-rest
invariant-loop-rest g l = record {
  sent : IsSentText (g.K.Sink.taken l.fn.sink) (g.K.Sink.taken l.sink) l.bytes l.rest;
  kept : g.K.Sink.faults l.sink ≡ g.K.Sink.faults l.fn.sink;
}

abbrev pub decreases-loop-rest : goal.decreases-loop-rest
decreases-loop-rest g l = length l.rest
