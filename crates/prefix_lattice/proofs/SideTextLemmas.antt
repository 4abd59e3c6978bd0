-- The text of one side of a prefix: it spells one side at most, and has a fault exactly where it spells none.
use Rattle.std.proofs.Common.{◌≡◌, ℕ, ◌-◌, ◌%◌, ◌^◌, ◌<◌, ◌≤◌, List, ◌∷◌, ◌++◌, length, decimal, refl, sym, ap}
use Rattle.std.proofs.Common.{◌∙◌, arith, subst, take}
use Rattle.std.proofs.lemmas.Fmt.{decimal_injective}
use Rattle.std.proofs.Math.Nat.{mul-mod_left}
use Rattle.prefix_lattice.specs.Address.{number_from, address_bits, address_of}
use Rattle.prefix_lattice.specs.KeptBits.{AreLeadingBits}
use Rattle.prefix_lattice.specs.Grain.{IsGrainLength, grain_bits}
use Rattle.prefix_lattice.specs.PrefixText.{address_text, side_text_of, before_slash, IsAddressText, HasLength}
use Rattle.prefix_lattice.specs.PrefixText.{TextSpellsSide, HasSideFault}
use Rattle.prefix_lattice.specs.declared.prefix_fault.Side.{Side}
use Rattle.prefix_lattice.specs.declared.prefix_fault.PrefixFault.{PrefixFault}
use Rattle.prefix_lattice.specs.declared.prefix_fault.PrefixFault.TheVariants.{BadAddress, BadLength, LooseBits}
use Rattle.prefix_lattice.specs.declared.grain.Grain.{Grain}
use Rattle.prefix_lattice.proofs.AddressLemmas.{address_of-small, address_tells_leading_bits, address_front_is_leading, address_front-length}
use Rattle.prefix_lattice.proofs.AddressTextLemmas.{address_text-lacks_slash, address_text-tells_address}
use Rattle.prefix_lattice.proofs.TextCutLemmas.{first_text_cut, same_text_cut}

-- in the text of an address and a length, the part before the slash is the address
pub side_text-before_slash : (text : List ℕ) (address bits : ℕ) → text ≡ side_text_of address bits
    → before_slash text ≡ address_text address
side_text-before_slash text address bits spelled =
    ap before_slash spelled
    ∙ first_text_cut 47 (address_text address) (decimal bits) (address_text-lacks_slash address)

-- such a text has an address before its slash
pub side_text-has_address : (text : List ℕ) (address bits : ℕ) → address < 2 ^ 32 → text ≡ side_text_of address bits
    → IsAddressText (before_slash text)
side_text-has_address text address bits small spelled = (address, small, side_text-before_slash text address bits spelled)

-- and a length after it
pub side_text-has_length : {grain : Grain} (text : List ℕ) (address bits : ℕ) → IsGrainLength grain bits
    → text ≡ side_text_of address bits → HasLength grain text
side_text-has_length text address bits is_length spelled =
    (bits, is_length, spelled ∙ ap (λ l. l ++ 47 ∷ decimal bits) (sym (side_text-before_slash text address bits spelled)))

-- such a text has only one address and one length
pub one_side_text : (address bits other others : ℕ) → address < 2 ^ 32 → other < 2 ^ 32 → bits ≤ 32 → others ≤ 32
    → side_text_of address bits ≡ side_text_of other others → (address ≡ other) × (bits ≡ others)
one_side_text address bits other others small other_small few few_others same =
    let cut = same_text_cut 47 (side_text_of address bits) (address_text address) (decimal bits)
    (address_text other) (decimal others)
    (sym (first_text_cut 47 (address_text address) (decimal bits) (address_text-lacks_slash address))) refl same
    (address_text-lacks_slash other) in
    let lengths : bits ≡ others =
    decimal_injective bits others (omega arith) (omega arith) cut.1 in
    (address_text-tells_address address other small other_small cut.0, omega arith)

-- a text spells one side at most
pub side_text-tells_side : {grain : Grain} (text front other : List ℕ) → TextSpellsSide grain text front → TextSpellsSide grain text other → front ≡ other
side_text-tells_side text front other spells spells_other =
    let same = one_side_text (address_of front) (length front) (address_of other) (length other)
    (address_of-small front spells.leading) (address_of-small other spells_other.leading) spells.leading.few
    spells_other.leading.few
    (sym spells.spelled ∙ spells_other.spelled) in
    address_tells_leading_bits front other spells.leading spells_other.leading same.1 same.0

-- the address of leading bits has no bit set past them
side_text-nothing_loose : (front : List ℕ) → address_of front % 2 ^ (32 - length front) ≡ 0
side_text-nothing_loose front = mul-mod_left (number_from 2 0 front) (2 ^ (32 - length front))

-- a text that spells a side has no fault
pub side_text-no_fault : {grain : Grain} (side : Side) (text front : List ℕ) (fault : PrefixFault) → TextSpellsSide grain text front
    → HasSideFault grain side text fault → ⊥
side_text-no_fault side text front (BadAddress at) spells has =
    has.1 (side_text-has_address text (address_of front) (length front) (address_of-small front spells.leading) spells.spelled)
side_text-no_fault side text front (BadLength at) spells has =
    has.2 (side_text-has_length text (address_of front) (length front) (record { few = spells.leading.few; whole = spells.steps })
    spells.spelled)
side_text-no_fault side text front (LooseBits at) spells has =
    let loose = has.1 in
    let same = one_side_text loose.address loose.bits (address_of front) (length front) loose.is_address
    (address_of-small front spells.leading) loose.is_length.few spells.leading.few
    (sym loose.spelled ∙ spells.spelled) in
    loose.loose (ap (λ a. a % 2 ^ (32 - loose.bits)) same.0 ∙ ap (λ n. address_of front % 2 ^ (32 - n)) same.1
    ∙ side_text-nothing_loose front)

-- a text has one fault at most
pub side_text-single_fault : (grain : Grain) (side : Side) (text : List ℕ) (fault other : PrefixFault) → HasSideFault grain side text fault
    → HasSideFault grain side text other → fault ≡ other
side_text-single_fault grain side text (BadAddress at) (BadAddress at') has has_other = ap BadAddress (has.0 ∙ sym has_other.0)
side_text-single_fault grain side text (BadAddress at) (BadLength at') has has_other = absurd (has.1 has_other.1)
side_text-single_fault grain side text (BadAddress at) (LooseBits at') has has_other =
    let loose = has_other.1 in
    absurd (has.1 (side_text-has_address text loose.address loose.bits loose.is_address loose.spelled))
side_text-single_fault grain side text (BadLength at) (BadAddress at') has has_other = absurd (has_other.1 has.1)
side_text-single_fault grain side text (BadLength at) (BadLength at') has has_other = ap BadLength (has.0 ∙ sym has_other.0)
side_text-single_fault grain side text (BadLength at) (LooseBits at') has has_other =
    let loose = has_other.1 in absurd (has.2 (side_text-has_length text loose.address loose.bits loose.is_length loose.spelled))
side_text-single_fault grain side text (LooseBits at) (BadAddress at') has has_other =
    let loose = has.1 in
    absurd (has_other.1 (side_text-has_address text loose.address loose.bits loose.is_address loose.spelled))
side_text-single_fault grain side text (LooseBits at) (BadLength at') has has_other =
    let loose = has.1 in absurd (has_other.2 (side_text-has_length text loose.address loose.bits loose.is_length loose.spelled))
side_text-single_fault grain side text (LooseBits at) (LooseBits at') has has_other = ap LooseBits (has.0 ∙ sym has_other.0)

-- the text of an address and a length of a grain spells the first bits of the address, where it has none after them
pub side_text-of_parts : (grain : Grain) (text before after front : List ℕ) (address bits : ℕ) → IsGrainLength grain bits
    → (front ≡ take bits (address_bits address)) × (address_of front ≡ address)
    → text ≡ before ++ 47 ∷ after → before ≡ address_text address → after ≡ decimal bits → TextSpellsSide grain text front
side_text-of_parts grain text before after front address bits is_length from joined is_before is_after =
    let kept : length front ≡ bits = ap length from.0 ∙ address_front-length bits address is_length.few in
    record {
      leading = subst AreLeadingBits (sym from.0) (address_front_is_leading bits address is_length.few);
      steps = ap (λ n. n % grain_bits grain) kept ∙ is_length.whole;
      spelled =
          joined ∙ ap (λ l. l ++ 47 ∷ after) is_before ∙ ap (λ l. address_text address ++ 47 ∷ l) is_after
          ∙ ap (λ a. side_text_of a bits) (sym from.1) ∙ ap (side_text_of (address_of front)) (sym kept);
    }
