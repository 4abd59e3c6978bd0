use Rattle.std.proofs.Common.{◌≤◌, length}
use Rattle.system_io.proofs.file_disk.write_on.Given as goal

-- no more bytes were written than there are
abbrev pub invariant-loop : goal.invariant-loop
invariant-loop g l = record {
  within : l.at ≤ length l.bytes;
}
