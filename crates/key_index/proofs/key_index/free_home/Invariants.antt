use Rattle.std.proofs.Common.{◌≡◌, ℕ, ◌<◌, length}
use Rattle.key_index.specs.HomeMarks.{IsMarked}
use Rattle.key_index.specs.Homes.{home_at, mixed_after}
use Rattle.key_index.proofs.key_index.free_home.Given as goal

-- the homes so far are marked
abbrev pub invariant-loop-turn : goal.invariant-loop-turn
invariant-loop-turn l = record {
  number : l.number ≡ mixed_after l.turn l.key;
  homes : length l.turned ≡ length l.fn.turned;
  passed : (earlier : ℕ) → earlier < l.turn → earlier < 8 → IsMarked l.turned (home_at l.room earlier l.key);
  kept : (home : ℕ) → IsMarked l.fn.turned home → IsMarked l.turned home;
}
