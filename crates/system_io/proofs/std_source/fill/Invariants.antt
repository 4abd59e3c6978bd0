use Rattle.std.specs.Io.KnownBytes.{Keeps}
use Rattle.system_io.proofs.std_source.fill.Given as goal

-- calls that were broken off took no byte
abbrev pub invariant-loop : goal.invariant-loop
invariant-loop g l = record {
  kept : Keeps (g.R.Read.remaining l.fn.reader) (g.R.Read.remaining l.reader);
}
