-- The text of a prefix: how it is spelled, and what is wrong with a text that spells no prefix.
use Rattle.std.specs.Prelude.{ℕ, ◌≡◌, ◌≢◌, ◌-◌, ◌*◌, ◌^◌, ◌%◌, ◌<◌, ◌⊎◌, ◌==◌, List, ◌∷◌, ◌++◌, length, map}
use Rattle.std.specs.Prelude.{decimal, ◌+◌, take, drop}
use Rattle.std.specs.List.{join_with_byte, before_first, after_first}
use Rattle.prefix_lattice.specs.Address.{address_bytes, address_of, address_length}
use Rattle.prefix_lattice.specs.KeptBits.{AreLeadingBits}
use Rattle.prefix_lattice.specs.Grain.{IsGrainLength, grain_bits}
use Rattle.prefix_lattice.specs.Prefix.{PrefixValue}
use Rattle.prefix_lattice.specs.declared.grain.Grain.{Grain}
use Rattle.prefix_lattice.specs.declared.prefix_fault.Side.{Side}
use Rattle.prefix_lattice.specs.declared.prefix_fault.Side.TheVariants.{Source, Dest}
use Rattle.prefix_lattice.specs.declared.prefix_fault.PrefixFault.{PrefixFault}
use Rattle.prefix_lattice.specs.declared.prefix_fault.PrefixFault.TheVariants.{BadAddress, BadLength, LooseBits}

-- the byte `.`, which joins the four numbers of an address
abbrev pub dot : ℕ
dot = 46

-- the byte `/`, which separates an address and a length
abbrev pub slash : ℕ
slash = 47

-- an address as its four bytes in decimal, joined by dots
abbrev pub address_text : ℕ → List ℕ
address_text address = join_with_byte dot (map decimal (address_bytes address))

-- an address, a slash and the number of bits that are kept
abbrev pub side_text_of : ℕ → ℕ → List ℕ
side_text_of address bits = address_text address ++ slash ∷ decimal bits

-- how one side of a prefix is spelled: bits that are not kept are written as zeros
abbrev pub side_text : List ℕ → List ℕ
side_text front = side_text_of (address_of front) (length front)

-- the most bytes of the text of a side, as of `255.255.255.255/32`
abbrev pub longest_side_text : ℕ
longest_side_text = 18

-- the space that separates the two sides of a prefix
abbrev pub text_space : ℕ
text_space = 32

-- how a prefix is spelled: its source, a space and its destination
abbrev pub prefix_text : PrefixValue → List ℕ
prefix_text prefix = side_text prefix.source ++ text_space ∷ side_text prefix.dest

-- the most bytes of the text of a prefix: two sides and a space
abbrev pub longest_prefix_text : ℕ
longest_prefix_text = 2 * longest_side_text + 1

-- the part of a text before its first space
abbrev pub source_part : List ℕ → List ℕ
source_part text = before_first (λ byte. byte == text_space) text

-- the part of a text after its first space
abbrev pub dest_part : List ℕ → List ℕ
dest_part text = after_first (λ byte. byte == text_space) text

-- the text spells this side of a prefix of a grain
pub record TextSpellsSide (grain : Grain) (text front : List ℕ) : Type 0 where
  pub leading : AreLeadingBits front
  pub steps : length front % grain_bits grain ≡ 0
  pub spelled : text ≡ side_text front

-- the text is an address: four numbers from 0 to 255 without leading zeros
abbrev pub IsAddressText : List ℕ → Type 0
IsAddressText text = (address : ℕ) × (address < 2 ^ 32) × (text ≡ address_text address)

-- the part of a text before its first slash, or all of it if there is no slash
abbrev pub before_slash : List ℕ → List ℕ
before_slash text = before_first (λ byte. byte == slash) text

-- the text after its first slash is a length of a grain
abbrev pub HasLength : Grain → List ℕ → Type 0
HasLength grain text =
    (bits : ℕ) × IsGrainLength grain bits × (text ≡ before_slash text ++ slash ∷ decimal bits)

-- the text is an address and a length of a grain, and a bit past the length is set
pub record HasLooseBits (grain : Grain) (text : List ℕ) : Type 0 where
  pub address : ℕ
  pub bits : ℕ
  pub is_address : address < 2 ^ 32
  pub is_length : IsGrainLength grain bits
  pub spelled : text ≡ side_text_of address bits
  pub loose : address % 2 ^ (address_length - bits) ≢ 0

-- what is wrong with the text of one side of a prefix of a grain
abbrev pub HasSideFault : Grain → Side → List ℕ → PrefixFault → Type 0
HasSideFault grain side text (BadAddress at) = (at ≡ side) × ¬ IsAddressText (before_slash text)
HasSideFault grain side text (BadLength at) = (at ≡ side) × IsAddressText (before_slash text) × ¬ HasLength grain text
HasSideFault grain side text (LooseBits at) = (at ≡ side) × HasLooseBits grain text

-- the two texts spell the prefix, which is of this grain
pub record SpellsPrefix (grain : Grain) (source_text dest_text : List ℕ) (prefix : PrefixValue) : Type 0 where
  pub source : TextSpellsSide grain source_text prefix.source
  pub dest : TextSpellsSide grain dest_text prefix.dest

-- what is wrong with two texts that spell no prefix of a grain: the source is checked completely before the destination
abbrev pub HasPrefixFault : Grain → List ℕ → List ℕ → PrefixFault → Type 0
HasPrefixFault grain source dest fault =
    HasSideFault grain Source source fault
    ⊎ (((front : List ℕ) × TextSpellsSide grain source front) × HasSideFault grain Dest dest fault)

-- this part was written from this offset on, and other bytes are unchanged
pub record WritesPrefixPart (old new : List ℕ) (start end : ℕ) (part : List ℕ) : Type 0 where
  pub ends : end ≡ start + length part
  pub written : new ≡ take start old ++ part ++ drop end old
