use Rattle.std.specs.Io.KnownBytes.{Keeps}
use Rattle.system_io.proofs.std_sink.taken.Given as goal

-- calls that were broken off appended nothing
abbrev pub invariant-loop : goal.invariant-loop
invariant-loop g l = record {
  kept : Keeps (g.W.Write.contents l.fn.writer) (g.W.Write.contents l.writer);
}
