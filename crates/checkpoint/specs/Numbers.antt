-- Numbers in a store: a given number of bytes, high byte first.
use Rattle.std.specs.Prelude.{ℕ, List}
use Rattle.byteorder.specs.Endian.{big_bytes}

-- a number in this many bytes, high byte first
unfoldable pub number_bytes : ℕ → ℕ → List ℕ
number_bytes count number = big_bytes count number
