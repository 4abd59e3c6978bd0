-- Marks of homes, a bit each, which no public contract cites.
use Rattle.std.specs.Prelude.{ℕ, ◌≡◌, ◌/◌, ◌%◌, List, slice_index}
use Rattle.std.specs.Int.{bit_at}

-- in words of 64 bits, the bit of the home is 1
unfoldable pub IsMarked : List ℕ → ℕ → Type 0
IsMarked words home = bit_at (slice_index words (home / 64)) (home % 64) ≡ 1
