-- The IPv4 addresses of made traffic.
use Rattle.std.specs.Prelude.{ℕ, ◌%◌, List, [], ◌∷◌, nat_lt, if◌then◌else◌}
use Rattle.std.specs.Int.{byte_at}

-- the address with this first byte that a number of 32 bits gives, by the number's highest byte: one and the same host
-- for a quarter of the numbers, one of 1,024 hosts for another quarter, and any host for half of them
abbrev pub made_address : ℕ → ℕ → List ℕ
made_address first number =
    if nat_lt (byte_at 3 number) 64 then first ∷ 0 ∷ 0 ∷ 1 ∷ []
    else if nat_lt (byte_at 3 number) 128 then first ∷ 0 ∷ byte_at 2 number % 4 ∷ byte_at 1 number ∷ []
    else first ∷ byte_at 2 number ∷ byte_at 1 number ∷ byte_at 0 number ∷ []
