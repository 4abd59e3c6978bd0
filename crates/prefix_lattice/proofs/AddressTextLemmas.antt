-- Addresses in text: their four numbers, and that each text spells one address at most.
use Rattle.std.proofs.Common.{◌≡◌, ℕ, ◌/◌, ◌%◌, ◌^◌, ◌<◌, eqb, false, List, ◌∷◌, ◌++◌, decimal, refl, sym, arith}
use Rattle.std.specs.List.{before_first}
use Rattle.std.proofs.lemmas.Fmt.{decimal_injective}
use Rattle.prefix_lattice.specs.PrefixText.{address_text}
use Rattle.prefix_lattice.proofs.TextCutLemmas.{TextLacksCutByte, first_text_cut, text_cut-next_number}
use Rattle.prefix_lattice.proofs.TextCutLemmas.{decimal_lacks_text_cut, lacks_text_cut-append, lacks_text_cut-cons}

-- the text after the first dot of an address, and after the second
abbrev pub address_text_after_first : ℕ → List ℕ
address_text_after_first address =
    decimal (address / 256 / 256 % 256) ++ 46 ∷ (decimal (address / 256 % 256) ++ 46 ∷ decimal (address % 256))

abbrev pub address_text_after_second : ℕ → List ℕ
address_text_after_second address = decimal (address / 256 % 256) ++ 46 ∷ decimal (address % 256)

-- a text cut at its first dot
pub record IsAddressTextCut (text before after : List ℕ) : Type 0 where
  pub is_before : before ≡ before_first (λ b. eqb b 46) text
  pub joined : text ≡ before ++ 46 ∷ after

-- a number, a dot and a rest are cut at that dot
address_text_number_cut : (number : ℕ) (rest : List ℕ) → number < 256 → IsAddressTextCut (decimal number ++ 46 ∷ rest) (decimal number) rest
address_text_number_cut number rest small = record {
  is_before = sym (first_text_cut 46 (decimal number) rest (decimal_lacks_text_cut 46 number (omega arith) (omega arith)));
  joined = refl;
}

-- where an address is cut at its dots, the parts are its numbers
pub address_text-first_number : (text before after : List ℕ) (address : ℕ) → IsAddressTextCut text before after → text ≡ address_text address
    → (before ≡ decimal (address / 256 / 256 / 256 % 256)) × (after ≡ address_text_after_first address)
address_text-first_number text before after address cut spelled =
    text_cut-next_number text before after (address_text_after_first address) (address / 256 / 256 / 256 % 256) (omega arith)
    cut.is_before cut.joined spelled

pub address_text-second_number : (text before after : List ℕ) (address : ℕ) → IsAddressTextCut text before after → text ≡ address_text_after_first address
    → (before ≡ decimal (address / 256 / 256 % 256)) × (after ≡ address_text_after_second address)
address_text-second_number text before after address cut spelled =
    text_cut-next_number text before after (address_text_after_second address) (address / 256 / 256 % 256) (omega arith) cut.is_before
    cut.joined spelled

pub address_text-third_number : (text before after : List ℕ) (address : ℕ) → IsAddressTextCut text before after → text ≡ address_text_after_second address
    → (before ≡ decimal (address / 256 % 256)) × (after ≡ decimal (address % 256))
address_text-third_number text before after address cut spelled =
    text_cut-next_number text before after (decimal (address % 256)) (address / 256 % 256) (omega arith) cut.is_before
    cut.joined spelled

-- the four numbers of an address, once its text is cut at three dots
pub record AreAddressTextNumbers (address : ℕ) (first second third fourth : List ℕ) : Type 0 where
  pub first_is : first ≡ decimal (address / 256 / 256 / 256 % 256)
  pub second_is : second ≡ decimal (address / 256 / 256 % 256)
  pub third_is : third ≡ decimal (address / 256 % 256)
  pub fourth_is : fourth ≡ decimal (address % 256)

pub address_text-cut_into_numbers : (address : ℕ) (text first after_first second after_second third fourth : List ℕ)
    → text ≡ address_text address
    → IsAddressTextCut text first after_first → IsAddressTextCut after_first second after_second → IsAddressTextCut after_second third fourth
    → AreAddressTextNumbers address first second third fourth
address_text-cut_into_numbers address text first after_first second after_second third fourth spelled cut_first cut_second cut_third =
    let one = address_text-first_number text first after_first address cut_first spelled in
    let two = address_text-second_number after_first second after_second address cut_second one.1 in
    let three = address_text-third_number after_second third fourth address cut_third two.1 in
    record { first_is = one.0; second_is = two.0; third_is = three.0; fourth_is = three.1 }

-- an address has no byte that is neither a digit nor a dot
pub address_text-lacks : (byte address : ℕ) → byte < 48 → eqb 46 byte ≡ false → TextLacksCutByte byte (address_text address)
address_text-lacks byte address low no_dot =
    let number : (n : ℕ) → n < 256 → TextLacksCutByte byte (decimal n) = λ n small. decimal_lacks_text_cut byte n low (omega arith) in
    let joined : (n : ℕ) (rest : List ℕ) → n < 256 → TextLacksCutByte byte rest → TextLacksCutByte byte (decimal n ++ 46 ∷ rest) =
    λ n rest small lacks.
    lacks_text_cut-append byte (decimal n) (46 ∷ rest) (number n small) (lacks_text_cut-cons byte 46 rest no_dot lacks) in
    joined _ _ (omega arith)
    (joined _ _ (omega arith) (joined _ _ (omega arith) (number (address % 256) (omega arith))))

-- an address has no slash
pub address_text-lacks_slash : (address : ℕ) → TextLacksCutByte 47 (address_text address)
address_text-lacks_slash address = address_text-lacks 47 address (omega arith) refl

-- addresses with the same four numbers are the same
same_address_text_numbers : (address other : ℕ) → address < 2 ^ 32 → other < 2 ^ 32
    → address / 256 / 256 / 256 % 256 ≡ other / 256 / 256 / 256 % 256
    → address / 256 / 256 % 256 ≡ other / 256 / 256 % 256
    → address / 256 % 256 ≡ other / 256 % 256 → address % 256 ≡ other % 256 → address ≡ other
same_address_text_numbers address other small other_small first second third fourth = omega arith

-- addresses with the same text are the same
pub address_text-tells_address : (address other : ℕ) → address < 2 ^ 32 → other < 2 ^ 32
    → address_text address ≡ address_text other → address ≡ other
address_text-tells_address address other small other_small same =
    let one =
    address_text-first_number (address_text address) (decimal (address / 256 / 256 / 256 % 256)) (address_text_after_first address)
    other (address_text_number_cut _ _ (omega arith)) same in
    let two =
    address_text-second_number (address_text_after_first address) (decimal (address / 256 / 256 % 256)) (address_text_after_second address) other
    (address_text_number_cut _ _ (omega arith)) one.1 in
    let three =
    address_text-third_number (address_text_after_second address) (decimal (address / 256 % 256)) (decimal (address % 256)) other
    (address_text_number_cut _ _ (omega arith)) two.1 in
    same_address_text_numbers address other small other_small
    (decimal_injective _ _ (omega arith) (omega arith) one.0) (decimal_injective _ _ (omega arith) (omega arith) two.0)
    (decimal_injective _ _ (omega arith) (omega arith) three.0)
    (decimal_injective _ _ (omega arith) (omega arith) three.1)
