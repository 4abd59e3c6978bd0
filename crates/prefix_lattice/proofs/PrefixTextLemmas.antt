-- The text of a prefix: it spells one prefix at most, and has one fault exactly where it spells none.
use Rattle.std.proofs.Common.{◌≡◌, List, ℕ, Result, Ok, Err, IfOk, IfErr, inl, inr, ap, ◌∙◌, subst}
use Rattle.prefix_lattice.specs.Prefix.{PrefixValue}
use Rattle.prefix_lattice.specs.PrefixText.{SpellsPrefix, HasPrefixFault}
use Rattle.prefix_lattice.specs.declared.prefix_fault.Side.TheVariants.{Source, Dest}
use Rattle.prefix_lattice.specs.declared.prefix_fault.PrefixFault.{PrefixFault}
use Rattle.prefix_lattice.specs.declared.grain.Grain.{Grain}
use Rattle.prefix_lattice.proofs.SideTextLemmas.{side_text-tells_side, side_text-no_fault, side_text-single_fault}

-- two texts spell one prefix at most
pub prefix_text-tells_prefix : (grain : Grain) (source dest : List ℕ) (prefix other : PrefixValue) → SpellsPrefix grain source dest prefix
    → SpellsPrefix grain source dest other → prefix ≡ other
prefix_text-tells_prefix grain source dest prefix other spells spells_other =
    let with_source : _ → PrefixValue = λ s. record { source = s; dest = prefix.dest } in
    let with_dest : _ → PrefixValue = λ d. record { source = other.source; dest = d } in
    ap with_source (side_text-tells_side source prefix.source other.source spells.source spells_other.source)
    ∙ ap with_dest (side_text-tells_side dest prefix.dest other.dest spells.dest spells_other.dest)

-- texts that spell a prefix have no fault
pub prefix_text-no_fault : (grain : Grain) (source dest : List ℕ) (prefix : PrefixValue) (fault : PrefixFault)
    → SpellsPrefix grain source dest prefix → HasPrefixFault grain source dest fault → ⊥
prefix_text-no_fault grain source dest prefix fault spells (inl has) =
    side_text-no_fault Source source prefix.source fault spells.source has
prefix_text-no_fault grain source dest prefix fault spells (inr has) = side_text-no_fault Dest dest prefix.dest fault spells.dest has.1

-- two texts have one fault at most
pub prefix_text-single_fault : (grain : Grain) (source dest : List ℕ) (fault other : PrefixFault) → HasPrefixFault grain source dest fault
    → HasPrefixFault grain source dest other → fault ≡ other
prefix_text-single_fault grain source dest fault other (inl has) (inl has_other) =
    side_text-single_fault grain Source source fault other has has_other
prefix_text-single_fault grain source dest fault other (inl has) (inr has_other) =
    absurd (side_text-no_fault Source source has_other.0.0 fault has_other.0.1 has)
prefix_text-single_fault grain source dest fault other (inr has) (inl has_other) =
    absurd (side_text-no_fault Source source has.0.0 other has.0.1 has_other)
prefix_text-single_fault grain source dest fault other (inr has) (inr has_other) =
    side_text-single_fault grain Dest dest fault other has.1 has_other.1

-- a result that is spelled by the texts, or is their fault, is the only correct one
pub prefix_text-exactly_spelled : (grain : Grain) (source dest : List ℕ) (result : Result PrefixValue PrefixFault)
    → IfOk result (SpellsPrefix grain source dest) → IfErr result (HasPrefixFault grain source dest)
    → (prefix : PrefixValue)
    → (result ≡ Ok prefix → SpellsPrefix grain source dest prefix)
    × (SpellsPrefix grain source dest prefix → result ≡ Ok prefix)
prefix_text-exactly_spelled grain source dest (Ok found) ok fault prefix = (
  λ same. subst (SpellsPrefix grain source dest) (cc same) ok,
  λ spells. ap Ok (prefix_text-tells_prefix grain source dest found prefix ok spells),
)
prefix_text-exactly_spelled grain source dest (Err found) ok fault prefix =
    (λ same. cc same, λ spells. absurd (prefix_text-no_fault grain source dest prefix found spells fault))

pub prefix_text-exact_fault : (grain : Grain) (source dest : List ℕ) (result : Result PrefixValue PrefixFault)
    → IfOk result (SpellsPrefix grain source dest) → IfErr result (HasPrefixFault grain source dest)
    → (other : PrefixFault)
    → (result ≡ Err other → HasPrefixFault grain source dest other)
    × (HasPrefixFault grain source dest other → result ≡ Err other)
prefix_text-exact_fault grain source dest (Ok found) ok fault other =
    (λ same. cc same, λ has. absurd (prefix_text-no_fault grain source dest found other ok has))
prefix_text-exact_fault grain source dest (Err found) ok fault other = (
  λ same. subst (HasPrefixFault grain source dest) (cc same) fault,
  λ has. ap Err (prefix_text-single_fault grain source dest found other fault has),
)
