use Rattle.std.proofs.Common.{◌≡◌, ◌+◌, ◌≤◌, ◌*◌, length, vec_capacity}
use Rattle.traffic_maker.specs.Making.{made_capture}
use Rattle.traffic_maker.specs.Draws.{state_after}
use Rattle.traffic_maker.proofs.making.make_bytes.Given as goal

-- the frames before the index are made, their numbers are drawn, and there is room for the others
abbrev pub invariant-loop-index : goal.invariant-loop-index
invariant-loop-index l = record {
  room : 24 + 50 * l.frames ≤ vec_capacity l.bytes;
  long : length l.bytes.items ≡ 24 + 50 * l.index;
  made : l.bytes.items ≡ made_capture l.seed l.index;
  drawn : l.draws.state ≡ state_after l.seed (2 * l.index);
}
