use Rattle.std.proofs.Common.{ℕ, ◌≡◌, ◌-◌, ◌*◌, length}
use Rattle.traffic_maker.specs.Making.{capture_frames}
use Rattle.traffic_maker.specs.Draws.{state_after}
use Rattle.traffic_maker.proofs.piece.Piece.fill.Given as goal

-- the frames before the index are held, and their numbers are drawn
abbrev pub invariant-loop-index : goal.invariant-loop-index
invariant-loop-index l = record {
  long : length l.self ≡ 50 * (l.index - l.first);
  made : (seed : ℕ) → l.fn.draws.state ≡ state_after seed (2 * l.first)
      → l.self ≡ capture_frames seed l.first (l.index - l.first);
  drawn : (seed : ℕ) → l.fn.draws.state ≡ state_after seed (2 * l.first)
      → l.draws.state ≡ state_after seed (2 * l.index);
}
