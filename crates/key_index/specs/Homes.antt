-- The homes of a key, which no public contract cites.
use Rattle.std.specs.Prelude.{ℕ, ◌+◌, ◌*◌, ◌/◌, ◌%◌, ◌^◌, zero, suc}
use Rattle.std.specs.Int.Bits.{bit_xor}
use Rattle.key_index.specs.declared.homes.TheConstants.{MULTIPLIER}

-- a number of 64 bits, mixed: the high half is laid over the low one, and both are multiplied
unfoldable pub mixed : ℕ → ℕ
mixed number = bit_xor number (number / 2 ^ 32) * MULTIPLIER % 2 ^ 64

-- a key after this many turns of mixing
abbrev pub mixed_after : ℕ → ℕ → ℕ
mixed_after zero key = key
mixed_after (suc turns) key = mixed (mixed_after turns key)

-- a number of 64 bits, scaled to the number of homes, which is four times the room
unfoldable pub scaled : ℕ → ℕ → ℕ
scaled room number = number / 2 ^ 32 * (4 * room) / 2 ^ 32

-- the home of a key at a turn, the first of which is turn 0
unfoldable pub home_at : ℕ → ℕ → ℕ → ℕ
home_at room turn key = scaled room (mixed_after (turn + 1) key)
