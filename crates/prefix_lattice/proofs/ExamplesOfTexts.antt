-- Worked examples of the texts of prefixes, and of their faults.
use Rattle.std.proofs.Common.{◌≡◌, ℕ, List, [], ◌∷◌, drop, slice_index, codes, decimal, inl, inr, refl}
use Rattle.std.proofs.Common.{ap, arith, length}
use Rattle.std.specs.Fmt.{digits}
use Rattle.std.proofs.lemmas.Fmt.{decimal_injective}
use Rattle.prefix_lattice.specs.PrefixText.{dot, slash, text_space, address_text, side_text_of, side_text}
use Rattle.prefix_lattice.specs.PrefixText.{prefix_text}
use Rattle.prefix_lattice.specs.PrefixText.{source_part, dest_part, TextSpellsSide}
use Rattle.prefix_lattice.specs.PrefixText.{IsAddressText, before_slash}
use Rattle.prefix_lattice.specs.PrefixText.{HasLength, HasLooseBits, HasSideFault, SpellsPrefix}
use Rattle.prefix_lattice.specs.PrefixText.{HasPrefixFault}
use Rattle.prefix_lattice.specs.PrefixText.{WritesPrefixPart, longest_prefix_text, longest_side_text}
use Rattle.prefix_lattice.specs.Address.{address_bits}
use Rattle.prefix_lattice.specs.declared.grain.Grain.TheVariants.{Byte, Nibble}
use Rattle.prefix_lattice.specs.declared.prefix_fault.Side.TheVariants.{Source, Dest}
use Rattle.prefix_lattice.specs.declared.prefix_fault.PrefixFault.TheVariants.{BadAddress, BadLength, LooseBits}
use Rattle.prefix_lattice.proofs.AddressTextLemmas.{address_text-first_number, address_text-second_number}
use Rattle.prefix_lattice.proofs.TextCutLemmas.{text_cut-no_next_number}
use Rattle.prefix_lattice.proofs.Examples.{front, prefix, prefix_by_bytes}

pub dot_between_numbers : codes "." ≡ dot ∷ []
dot_between_numbers = refl

pub slash_before_a_length : codes "/" ≡ slash ∷ []
slash_before_a_length = refl

pub space_between_sides : codes " " ≡ text_space ∷ []
space_between_sides = refl

pub text_of_an_address : address_text 0x0a010203 ≡ codes "10.1.2.3"
unfolding digits
text_of_an_address = refl

pub text_of_an_address_and_a_length : side_text_of 0x0a010203 16 ≡ codes "10.1.2.3/16"
unfolding digits
text_of_an_address_and_a_length = refl

pub text_of_a_side : side_text (front 0x14010000 16) ≡ codes "20.1.0.0/16"
unfolding digits
text_of_a_side = refl

-- the text of a prefix that keeps 8 bits and 16
abbrev text : List ℕ
text = codes "10.0.0.0/8 20.1.0.0/16"

pub text_of_a_prefix : prefix_text prefix ≡ text
unfolding digits
text_of_a_prefix = refl

pub text_before_the_space : source_part text ≡ codes "10.0.0.0/8"
text_before_the_space = refl

pub text_after_the_space : dest_part text ≡ codes "20.1.0.0/16"
text_after_the_space = refl

pub text_of_the_source : TextSpellsSide Byte (codes "10.0.0.0/8") (front 0x0a000000 8)
unfolding digits
text_of_the_source = record { leading = prefix_by_bytes.source; steps = refl; spelled = refl }

pub text_of_the_destination : TextSpellsSide Byte (codes "20.1.0.0/16") (front 0x14010000 16)
unfolding digits
text_of_the_destination = record { leading = prefix_by_bytes.dest; steps = refl; spelled = refl }

pub texts_of_a_prefix : SpellsPrefix Byte (codes "10.0.0.0/8") (codes "20.1.0.0/16") prefix
texts_of_a_prefix = record { source = text_of_the_source; dest = text_of_the_destination }

pub four_numbers_are_an_address : IsAddressText (codes "10.1.2.3")
unfolding digits
four_numbers_are_an_address = (0x0a010203, omega arith, refl)

pub three_numbers_are_no_address : IsAddressText (codes "10.1.2") → ⊥
three_numbers_are_no_address is_address =
    let address = is_address.0 in
    let one =
    address_text-first_number (codes "10.1.2") (codes "10") (codes "1.2") address
    (record { is_before = refl; joined = refl }) is_address.2 in
    let two =
    address_text-second_number (codes "1.2") (codes "1") (codes "2") address (record { is_before = refl; joined = refl })
    one.1 in
    text_cut-no_next_number (codes "2") _ _ (omega arith) refl two.1

pub text_before_the_slash : before_slash (codes "10.0.0.0/8") ≡ codes "10.0.0.0"
text_before_the_slash = refl

pub whole_text_without_a_slash : before_slash (codes "10.0.0.0") ≡ codes "10.0.0.0"
whole_text_without_a_slash = refl

pub eight_is_a_length : HasLength Byte (codes "10.0.0.0/8")
unfolding digits
eight_is_a_length = (8, record { few = omega arith; whole = refl }, refl)

pub twelve_is_a_length_by_half_bytes : HasLength Nibble (codes "10.0.0.0/12")
unfolding digits
twelve_is_a_length_by_half_bytes = (12, record { few = omega arith; whole = refl }, refl)

-- bytes are kept whole
pub twelve_is_no_length_by_bytes : HasLength Byte (codes "10.0.0.0/12") → ⊥
unfolding digits
twelve_is_no_length_by_bytes has_length =
    let bits = has_length.0 in
    let is_length = has_length.1 in
    let few = is_length.few in
    let same : codes "12" ≡ decimal bits = ap (λ l. drop 9 l) has_length.2 in
    let twelve : decimal 12 ≡ decimal bits = same in
    omega (arith, is_length.whole, decimal_injective 12 bits (omega arith) (omega arith) twelve)

pub bits_past_a_length : HasLooseBits Byte (codes "10.1.2.0/16")
unfolding digits
bits_past_a_length = record {
  address = 0x0a010200;
  bits = 16;
  is_address = omega arith;
  is_length = record { few = omega arith; whole = refl };
  spelled = refl;
  loose = λ none. omega (arith, none);
}

pub fault_of_three_numbers : HasSideFault Byte Source (codes "10.1.2/8") (BadAddress Source)
fault_of_three_numbers = (refl, three_numbers_are_no_address)

pub fault_of_a_length : HasSideFault Byte Source (codes "10.0.0.0/12") (BadLength Source)
unfolding digits
fault_of_a_length = (refl, (0x0a000000, omega arith, refl), twelve_is_no_length_by_bytes)

pub fault_of_bits_past_a_length : HasSideFault Byte Dest (codes "10.1.2.0/16") (LooseBits Dest)
fault_of_bits_past_a_length = (refl, bits_past_a_length)

-- a fault of one side is not reported as one of the other
pub fault_of_another_side : HasSideFault Byte Dest (codes "10.1.2.0/16") (LooseBits Source) → ⊥
fault_of_another_side has = cc (has.0)

-- the destination is not checked if the source has a fault
pub fault_of_the_source : HasPrefixFault Byte (codes "10.1.2/8") (codes "x") (BadAddress Source)
fault_of_the_source = inl fault_of_three_numbers

pub fault_of_the_destination : HasPrefixFault Byte (codes "10.0.0.0/8") (codes "10.1.2.0/16") (LooseBits Dest)
fault_of_the_destination = inr ((front 0x0a000000 8, text_of_the_source), fault_of_bits_past_a_length)

-- of six bytes the two from offset 2 on were written
pub part_that_was_written : WritesPrefixPart (codes "xxxxxx") (codes "xx10xx") 2 4 (codes "10")
part_that_was_written = record { ends = refl; written = refl }

pub byte_that_did_not_stay : WritesPrefixPart (codes "xxxxxx") (codes "xx10yx") 2 4 (codes "10") → ⊥
byte_that_did_not_stay writes = omega (arith, ap (λ l. slice_index l 4) writes.written)

pub longest_side : length (side_text (address_bits 0xffffffff)) ≡ longest_side_text
unfolding digits
longest_side = refl

-- no text is longer than that of 255.255.255.255/32 255.255.255.255/32
pub longest_text :
    length (prefix_text (record { source = address_bits 0xffffffff; dest = address_bits 0xffffffff }))
    ≡ longest_prefix_text
unfolding digits
longest_text = refl
