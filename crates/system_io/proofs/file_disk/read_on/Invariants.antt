use Rattle.std.proofs.Common.{◌≡◌, ◌≤◌, length, drop}
use Rattle.system_io.proofs.file_disk.read_on.Given as goal

-- `into` is unchanged after the bytes read so far
abbrev pub invariant-loop : goal.invariant-loop
invariant-loop g l = record {
  within : l.at ≤ length l.into;
  same_room : length l.buffer ≡ length l.fn.buffer;
  same_length : length l.into ≡ length l.fn.into;
  later_places : drop l.at l.into ≡ drop l.at l.fn.into;
}
