-- An IPv4 address, its bytes and its bits.
use Rattle.std.specs.Prelude.{ℕ, ◌+◌, ◌-◌, ◌*◌, ◌/◌, ◌%◌, ◌^◌, zero, suc, List, [], ◌∷◌, ◌++◌, length}

-- the bits of an IPv4 address (RFC 791)
abbrev pub address_length : ℕ
address_length = 32

-- this many of the lowest digits of a number, the most significant first
abbrev pub digits : ℕ → ℕ → ℕ → List ℕ
digits base zero number = []
digits base (suc count) number = digits base count (number / base) ++ number % base ∷ []

-- the number whose digits are those of `high` followed by these
abbrev pub number_from : ℕ → ℕ → List ℕ → ℕ
number_from base high [] = high
number_from base high (digit ∷ rest) = number_from base (high * base + digit) rest

-- the bits of an address, in network order (RFC 791)
abbrev pub address_bits : ℕ → List ℕ
address_bits address = digits 2 address_length address

-- the bytes of an IPv4 address
abbrev pub address_size : ℕ
address_size = 4

-- the bytes of an address, in network byte order
abbrev pub address_bytes : ℕ → List ℕ
address_bytes address = digits 256 address_size address

-- the address that begins with these bits and has zeros after them
abbrev pub address_of : List ℕ → ℕ
address_of bits = number_from 2 0 bits * 2 ^ (address_length - length bits)
