-- The text of a whole prefix: its two sides with a space between them.
use Rattle.std.proofs.Common.{◌≡◌, ℕ, List, ◌∷◌, ◌++◌, length, decimal, refl, sym, ap, ◌∙◌, arith, subst}
use Rattle.prefix_lattice.specs.Address.{address_of}
use Rattle.prefix_lattice.specs.KeptBits.{AreLeadingBits}
use Rattle.prefix_lattice.specs.Prefix.{PrefixValue, IsPrefix}
use Rattle.prefix_lattice.specs.PrefixText.{address_text, side_text, prefix_text, source_part}
use Rattle.prefix_lattice.specs.PrefixText.{dest_part, SpellsPrefix}
use Rattle.prefix_lattice.specs.declared.grain.Grain.{Grain}
use Rattle.prefix_lattice.proofs.TextCutLemmas.{TextLacksCutByte, first_text_cut, first_text_cut_behind}
use Rattle.prefix_lattice.proofs.TextCutLemmas.{decimal_lacks_text_cut, lacks_text_cut-append}
use Rattle.prefix_lattice.proofs.TextCutLemmas.{lacks_text_cut-cons}
use Rattle.prefix_lattice.proofs.AddressTextLemmas.{address_text-lacks}
use Rattle.prefix_lattice.proofs.PrefixTextLemmas.{prefix_text-tells_prefix}

-- a side has no space
whole_text-side_lacks_space : (front : List ℕ) → AreLeadingBits front → TextLacksCutByte 32 (side_text front)
whole_text-side_lacks_space front leading =
    let few = leading.few in
    lacks_text_cut-append 32 (address_text (address_of front)) (47 ∷ decimal (length front))
    (address_text-lacks 32 (address_of front) (omega arith) refl)
    (lacks_text_cut-cons 32 47 (decimal (length front)) refl
    (decimal_lacks_text_cut 32 (length front) (omega arith) (omega arith)))

pub whole_text-source_part : {grain : Grain} (prefix : PrefixValue) → IsPrefix grain prefix
    → source_part (prefix_text prefix) ≡ side_text prefix.source
whole_text-source_part prefix valid =
    first_text_cut 32 (side_text prefix.source) (side_text prefix.dest) (whole_text-side_lacks_space prefix.source valid.source)

pub whole_text-dest_part : {grain : Grain} (prefix : PrefixValue) → IsPrefix grain prefix
    → dest_part (prefix_text prefix) ≡ side_text prefix.dest
whole_text-dest_part prefix valid =
    first_text_cut_behind 32 (side_text prefix.source) (side_text prefix.dest)
    (whole_text-side_lacks_space prefix.source valid.source)

-- a prefix that is written is read back
pub whole_text-read_back : (grain : Grain) (prefix : PrefixValue) → IsPrefix grain prefix
    → SpellsPrefix grain (source_part (prefix_text prefix)) (dest_part (prefix_text prefix)) prefix
whole_text-read_back grain prefix valid = record {
  source = record { leading = valid.source; steps = valid.source_steps; spelled = whole_text-source_part prefix valid };
  dest = record { leading = valid.dest; steps = valid.dest_steps; spelled = whole_text-dest_part prefix valid };
}

-- a prefix that is read is written as it was
pub whole_text-written_as_read : (grain : Grain) (source dest : List ℕ) (prefix : PrefixValue) → SpellsPrefix grain source dest prefix
    → prefix_text prefix ≡ source ++ 32 ∷ dest
whole_text-written_as_read grain source dest prefix spells =
    ap (λ (l : List ℕ). l ++ 32 ∷ side_text prefix.dest) (sym spells.source.spelled)
    ∙ ap (λ (l : List ℕ). source ++ 32 ∷ l) (sym spells.dest.spelled)

-- distinct prefixes have distinct texts
pub whole_text-tells_prefix : {grain : Grain} (prefix other : PrefixValue) → IsPrefix grain prefix → IsPrefix grain other
    → prefix_text prefix ≡ prefix_text other → prefix ≡ other
whole_text-tells_prefix {grain} prefix other valid other_valid same =
    prefix_text-tells_prefix grain (source_part (prefix_text prefix)) (dest_part (prefix_text prefix)) prefix other
    (whole_text-read_back grain prefix valid)
    (subst (λ (text : List ℕ). SpellsPrefix grain (source_part text) (dest_part text) other) (sym same)
    (whole_text-read_back grain other other_valid))
