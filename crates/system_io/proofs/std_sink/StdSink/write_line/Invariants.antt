use Rattle.std.proofs.Common.{◌≡◌, length}
use Rattle.system_io.proofs.WrittenLineLemmas.{IsWrittenInPart}
use Rattle.system_io.proofs.std_sink.StdSink.write_line.Given as goal

-- the bytes written and the rest make up the line, and no call failed
abbrev pub invariant-loop-rest : goal.invariant-loop-rest
invariant-loop-rest g l = record {
  written : IsWrittenInPart (g.W.Write.contents l.fn.self.writer) (g.W.Write.contents l.self.writer) l.line l.rest;
  kept : l.self.faults ≡ l.fn.self.faults;
}

abbrev pub decreases-loop-rest : goal.decreases-loop-rest
decreases-loop-rest g l = length l.rest
