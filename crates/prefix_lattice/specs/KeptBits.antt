-- The leading bits of an IPv4 address, which a prefix keeps.
use Rattle.std.specs.Prelude.{ℕ, ◌<◌, ◌≤◌, ◌==◌, ◌&&◌, Bool, true, false, List, [], ◌∷◌, length, slice_index}
use Rattle.prefix_lattice.specs.Address.{address_length}

-- whether a list of bits begins with another
abbrev pub begins_with : List ℕ → List ℕ → Bool
begins_with bits [] = true
begins_with [] (first ∷ front) = false
begins_with (bit ∷ bits) (first ∷ front) = bit == first && begins_with bits front

-- leading bits of an address: at most 32 numbers, each 0 or 1
pub record AreLeadingBits (front : List ℕ) : Type 0 where
  pub few : length front ≤ address_length
  pub bits : (place : ℕ) → slice_index front place < 2
