-- How long the text of a prefix can be.
use Rattle.std.proofs.Common.{ℕ, ◌/◌, ◌%◌, ◌≤◌, List, ◌∷◌, ◌++◌, length, decimal, arith, length-append}
use Rattle.std.proofs.lemmas.Fmt.{length-decimal-le}
use Rattle.prefix_lattice.specs.Address.{address_of}
use Rattle.prefix_lattice.specs.KeptBits.{AreLeadingBits}
use Rattle.prefix_lattice.specs.Prefix.{PrefixValue, IsPrefix}
use Rattle.prefix_lattice.specs.declared.grain.Grain.{Grain}
use Rattle.prefix_lattice.specs.PrefixText.{address_text, side_text, prefix_text}

-- a byte has at most three digits
byte_text_length : (number : ℕ) → length (decimal (number % 256)) ≤ 3
byte_text_length number = length-decimal-le 3 (number % 256) (omega arith) (omega arith) (omega arith)

pub length-address_text : (address : ℕ) → length (address_text address) ≤ 15
length-address_text address =
    let first = decimal (address / 256 / 256 / 256 % 256) in
    let second = decimal (address / 256 / 256 % 256) in
    let third = decimal (address / 256 % 256) in
    let fourth = decimal (address % 256) in
    omega (
      arith,
      byte_text_length (address / 256 / 256 / 256),
      byte_text_length (address / 256 / 256),
      byte_text_length (address / 256),
      byte_text_length address,
      length-append first (46 ∷ (second ++ 46 ∷ (third ++ 46 ∷ fourth))),
      length-append second (46 ∷ (third ++ 46 ∷ fourth)),
      length-append third (46 ∷ fourth),
    )

-- a length in bits has at most two digits
pub text_length-bits : (bits : ℕ) → bits ≤ 32 → length (decimal bits) ≤ 2
text_length-bits bits few = length-decimal-le 2 bits (omega arith) (omega arith) (omega arith)

pub length-side_text : (front : List ℕ) → AreLeadingBits front → length (side_text front) ≤ 18
length-side_text front leading =
    omega (
      arith,
      length-append (address_text (address_of front)) (47 ∷ decimal (length front)),
      length-address_text (address_of front),
      text_length-bits (length front) leading.few,
    )

pub length-prefix_text : {grain : Grain} (prefix : PrefixValue) → IsPrefix grain prefix → length (prefix_text prefix) ≤ 37
length-prefix_text prefix valid =
    omega (
      arith,
      length-append (side_text prefix.source) (32 ∷ side_text prefix.dest),
      length-side_text prefix.source valid.source,
      length-side_text prefix.dest valid.dest,
    )
