use Rattle.std.proofs.Common.{◌≡◌, ◌≤◌, ◌+◌, ◌++◌, vec_len, vec_capacity}
use Rattle.slot_disk.specs.Recorded.{no_bytes}
use Rattle.slot_disk.proofs.overwriting.fill_gap.Given as goal

abbrev pub invariant-loop-filled : goal.invariant-loop-filled
invariant-loop-filled l = record {
  items : l.bytes.items ≡ l.fn.bytes.items ++ no_bytes l._filled;
  len : vec_len l.bytes ≡ vec_len l.fn.bytes + l._filled;
  room : vec_capacity l.fn.bytes ≤ vec_capacity l.bytes;
}
