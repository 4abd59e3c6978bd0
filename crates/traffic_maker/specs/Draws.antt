-- The numbers drawn from a seed: the upper halves of the states of a linear congruential generator.
use Rattle.std.specs.Prelude.{ℕ, zero, suc, ◌+◌, ◌*◌, ◌/◌, ◌%◌, ◌^◌}

-- the state after a draw: multiplier and increment are those of Knuth's MMIX (The Art of Computer Programming,
-- section 3.3.4)
unfoldable pub next_state : ℕ → ℕ
next_state state = (6364136223846793005 * state + 1442695040888963407) % 2 ^ 64

-- the state after this many draws; the first state is the seed
abbrev pub state_after : ℕ → ℕ → ℕ
state_after seed zero = seed
state_after seed (suc count) = next_state (state_after seed count)

-- the number that a draw gives: the upper 32 bits of the state after it
abbrev pub draw_from : ℕ → ℕ
draw_from state = state / 2 ^ 32

-- the number drawn at an index, from 0
abbrev pub draw : ℕ → ℕ → ℕ
draw seed index = draw_from (state_after seed (index + 1))
