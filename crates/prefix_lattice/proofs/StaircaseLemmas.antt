-- The staircase of incomparable prefixes: the kept pairs of the chain that covers a record are its neighbours.
use Rattle.std.proofs.Common.{◌≡◌, ◌≢◌, ◌+◌, ◌<◌, ◌≤◌, true, false, ◌&&◌, ◌||◌, not, List, [], ◌∷◌, length, ◌⊎◌}
use Rattle.std.proofs.Common.{inl, inr, refl, sym, ap, ◌∙◌, arith, subst}
use Rattle.std.specs.List.{filter}
use Rattle.std.proofs.lemmas.Bool.{false≢true, false_from_ne_true, and_parts, and_from, or_parts, or_from, not-true}
use Rattle.std.proofs.lemmas.Bool.{not_from_false}
use Rattle.std.proofs.lemmas.List.Sums.{length-filter}
use Rattle.std.proofs.lemmas.List.Kept.{AllPairs-filter}
use Rattle.prefix_lattice.specs.Address.{address_bits}
use Rattle.prefix_lattice.specs.Record.{RecordValue}
use Rattle.prefix_lattice.specs.Prefix.{PrefixValue, covers}
use Rattle.prefix_lattice.specs.Lattice.{under, same_as}
use Rattle.prefix_lattice.specs.KeptPairs.{under_third, kept_pairs}
use Rattle.prefix_lattice.specs.ClosestLines.{AreIncomparable, covering_count}
use Rattle.prefix_lattice.specs.Staircase.{ObeyStaircase}
use Rattle.prefix_lattice.proofs.AmongLemmas.{Among, any_among-false, any_among-true, among-filter, filter-among}
use Rattle.prefix_lattice.proofs.OrderedCountLemmas.{added_to_count, count_by-cons, count_by-none, pair_count}
use Rattle.prefix_lattice.proofs.OrderedCountLemmas.{pair_count-filter}
use Rattle.prefix_lattice.proofs.OrderedCountLemmas.{ordered_by, ordered_by-keeps, ordered_by-adds_none}
use Rattle.prefix_lattice.proofs.OrderedCountLemmas.{ordered_by-same_count}
use Rattle.prefix_lattice.proofs.OrderedCountLemmas.{pair_count-ordered_by}
use Rattle.prefix_lattice.proofs.UnderMeetLemmas.{IsMeet, under-antisym, under_same_prefix-refl, covers-up_from_under}
use Rattle.prefix_lattice.proofs.UnderMeetLemmas.{meet-covers}
use Rattle.prefix_lattice.proofs.KeptPairLemmas.{keeps_pair, kept_pair-count, keeps_pair-turned}
use Rattle.prefix_lattice.proofs.KeptPairLemmas.{keeps_pair-by_kept_meet, keeps_pair-covers}
use Rattle.prefix_lattice.proofs.ChainLemmas.{chain_source_bits, chain_dest_bits, IsChainMember, DescendsChain}
use Rattle.prefix_lattice.proofs.ChainLemmas.{IsChain, under-by_chain_bytes}
use Rattle.prefix_lattice.proofs.ChainLemmas.{chain_bytes-by_under, chain_member_under_is_same}
use Rattle.prefix_lattice.proofs.ChainLemmas.{chain_from_ordered_members}

-- a step and the later ones: no further member that covers the record keeps more source bits than the step
pub record AreStaircaseRest (members : List PrefixValue) (rec : RecordValue) (step : PrefixValue) (later : List PrefixValue)
    : Type 0 where
  pub steps : (prefix : PrefixValue) → Among prefix (step ∷ later) → IsChainMember members rec prefix
  pub chain : IsChain (step ∷ later)
  pub all : (prefix : PrefixValue) → IsChainMember members rec prefix
      → (chain_source_bits prefix ≤ chain_source_bits step) ⊎ Among prefix later

-- what follows the next step
staircase_rest-tail : (members : List PrefixValue) (rec : RecordValue) (step next : PrefixValue) (later : List PrefixValue)
    → AreStaircaseRest members rec step (next ∷ later) → AreStaircaseRest members rec next later
staircase_rest-tail members rec step next later rest = record {
  steps = λ prefix among. rest.steps prefix (inr among);
  chain = rest.chain.1;
  all = λ prefix is_step. either prefix (rest.all prefix is_step);
}
  where
    either : (prefix : PrefixValue) → (chain_source_bits prefix ≤ chain_source_bits step) ⊎ Among prefix (next ∷ later)
        → (chain_source_bits prefix ≤ chain_source_bits next) ⊎ Among prefix later
    either prefix (inl less) =
        let descends = rest.chain.0 next (inl refl) in
        inl (omega (arith, descends.source, less))
    either prefix (inr (inl same)) = inl (omega (arith, ap chain_source_bits same))
    either prefix (inr (inr among)) = inr among

-- the meet of a step and the next one is under no third member
staircase_has_no_third : (members : List PrefixValue) (rec : RecordValue) (step next lowest : PrefixValue)
    (later : List PrefixValue) → AreIncomparable members → AreStaircaseRest members rec step (next ∷ later)
    → IsMeet step next lowest (address_bits rec.src) (address_bits rec.dst)
    → under_third members step next lowest ≡ false
staircase_has_no_third members rec step next lowest later incomparable rest found =
    any_among-false (λ third. under lowest third && not (same_as third step || same_as third next)) members
    (λ third among. false_from_ne_true _ (λ passes.
    let parts = and_parts (under lowest third) (not (same_as third step || same_as third next)) passes in
    let neither = or_parts (same_as third step) (same_as third next) (not-true _ parts.1) in
    let covered = and_from _ _ found.source_begins found.dest_begins in
    let is_step : IsChainMember members rec third = record {
      among = among;
      covered = covers-up_from_under lowest third rec parts.0 covered;
    } in
    is_one third is_step parts.0 neither.0 neither.1 (rest.all third is_step)))
  where
    descends : DescendsChain step next
    descends = rest.chain.0 next (inl refl)

    is_first : (third : PrefixValue) → third ≡ step → same_as third step ≡ false → ⊥
    is_first third same other =
        false≢true (sym other ∙ subst (λ p. same_as third p ≡ true) same (under_same_prefix-refl third))

    is_one : (third : PrefixValue) → IsChainMember members rec third → under lowest third ≡ true
        → same_as third step ≡ false → same_as third next ≡ false
        → (chain_source_bits third ≤ chain_source_bits step) ⊎ Among third (next ∷ later) → ⊥
    is_one third is_step is_under not_step not_next (inl less) =
        let lengths = chain_bytes-by_under lowest third is_under in
        let first_step = rest.steps step (inl refl) in
        let dests : chain_dest_bits third ≤ chain_dest_bits step = omega (arith, found.dest_length, descends.dest, lengths.1) in
        let same =
        chain_member_under_is_same members step third incomparable first_step.among is_step.among
        (under-by_chain_bytes rec step third first_step.covered is_step.covered less dests) in
        is_first third (sym same) not_step
    is_one third is_step is_under not_step not_next (inr (inl same)) =
        false≢true (sym not_next ∙ subst (λ p. same_as third p ≡ true) same (under_same_prefix-refl third))
    is_one third is_step is_under not_step not_next (inr (inr among)) =
        let lengths = chain_bytes-by_under lowest third is_under in
        let further = rest.chain.1.0 third among in
        absurd (omega (arith, found.source_length, descends.source, lengths.0, further.source))

-- a step and the next one are a kept pair, and their meet covers the record
staircase_next_is_kept : (members : List PrefixValue) (rec : RecordValue) (step next : PrefixValue) (later : List PrefixValue)
    → AreIncomparable members → AreStaircaseRest members rec step (next ∷ later)
    → keeps_pair members rec step next ≡ true
staircase_next_is_kept members rec step next later incomparable rest =
    let found =
    meet-covers step next rec (rest.steps step (inl refl)).covered (rest.steps next (inr (inl refl))).covered in
    keeps_pair-by_kept_meet members rec step next found.0 false found.1.is
    (staircase_has_no_third members rec step next found.0 later incomparable rest found.1)
    ∙ and_from _ _ found.1.source_begins found.1.dest_begins

-- a step and one after the next are not a kept pair: their meet is under the next
staircase_later_is_not_kept : (members : List PrefixValue) (rec : RecordValue) (step next : PrefixValue)
    (later : List PrefixValue) → AreStaircaseRest members rec step (next ∷ later)
    → (last : PrefixValue) → Among last later → keeps_pair members rec step last ≡ false
staircase_later_is_not_kept members rec step next later rest last among =
    let first_step = rest.steps step (inl refl) in
    let next_step = rest.steps next (inr (inl refl)) in
    let last_step = rest.steps last (inr (inr among)) in
    let descends = rest.chain.0 next (inl refl) in
    let further = rest.chain.1.0 last among in
    let found = meet-covers step last rec first_step.covered last_step.covered in
    let covered = and_from _ _ found.1.source_begins found.1.dest_begins in
    let sources : chain_source_bits next ≤ chain_source_bits found.0 = omega (arith, found.1.source_length, further.source) in
    let dests : chain_dest_bits next ≤ chain_dest_bits found.0 = omega (arith, found.1.dest_length, descends.dest) in
    let is_under = under-by_chain_bytes rec found.0 next covered next_step.covered sources dests in
    let not_first = false_from_ne_true (same_as next step) (λ same. other next step descends.source same) in
    let not_last = false_from_ne_true (same_as next last) (λ same. turned next last further.source same) in
    let third = any_among-true (λ p. under found.0 p && not (same_as p step || same_as p last)) next members
    next_step.among
    (and_from _ _ is_under (not_from_false _ (or_from _ _ not_first not_last))) in
    keeps_pair-by_kept_meet members rec step last found.0 true found.1.is third
  where
    other : (prefix first : PrefixValue) → chain_source_bits first < chain_source_bits prefix → same_as prefix first ≡ true → ⊥
    other prefix first less same =
        let both = and_parts (under prefix first) (under first prefix) same in
        absurd (omega (arith, less, ap chain_source_bits (under-antisym prefix first both.0 both.1)))

    turned : (prefix next : PrefixValue) → chain_source_bits prefix < chain_source_bits next → same_as prefix next ≡ true → ⊥
    turned prefix next less same =
        let both = and_parts (under prefix next) (under next prefix) same in
        absurd (omega (arith, less, ap chain_source_bits (under-antisym prefix next both.0 both.1)))

-- the kept pairs of a chain are its neighbours, one fewer than its steps
staircase_neighbours-count : (members : List PrefixValue) (rec : RecordValue) (step : PrefixValue) (later : List PrefixValue)
    → AreIncomparable members → AreStaircaseRest members rec step later
    → pair_count (keeps_pair members rec) (step ∷ later) + 1 ≡ length (step ∷ later)
staircase_neighbours-count members rec step [] incomparable rest = refl
staircase_neighbours-count members rec step (next ∷ later) incomparable rest =
    omega (
      arith,
      count_by-cons (keeps_pair members rec step) next later,
      ap added_to_count (staircase_next_is_kept members rec step next later incomparable rest),
      count_by-none (keeps_pair members rec step) later (staircase_later_is_not_kept members rec step next later rest),
      staircase_neighbours-count members rec next later incomparable (staircase_rest-tail members rec step next later rest),
    )

-- the members that cover the record
abbrev staircase_members : List PrefixValue → RecordValue → List PrefixValue
staircase_members members rec = filter (λ prefix. covers prefix rec) members

-- those with the fewest source bits first
abbrev staircase_chain : List PrefixValue → RecordValue → List PrefixValue
staircase_chain members rec = ordered_by chain_source_bits (staircase_members members rec)

-- if n members cover a record and n is at least 1, exactly n - 1 kept pairs have a meet that covers it
pub staircase : (members : List PrefixValue) (rec : RecordValue) → AreIncomparable members → ObeyStaircase members rec
staircase members rec incomparable some =
    let pairs : covering_count rec (kept_pairs members) ≡ pair_count (keeps_pair members rec) (staircase_chain members rec) =
    kept_pair-count members rec members
    ∙ sym (pair_count-filter (keeps_pair members rec) (λ prefix. covers prefix rec) members (keeps_pair-covers members rec))
    ∙ sym (pair_count-ordered_by chain_source_bits (keeps_pair members rec) (keeps_pair-turned members rec) (staircase_members members rec)) in
    let steps : length (staircase_chain members rec) ≡ covering_count rec members =
    ordered_by-same_count chain_source_bits (staircase_members members rec) ∙ length-filter (λ prefix. covers prefix rec) members in
    let whole : pair_count (keeps_pair members rec) (staircase_chain members rec) + 1 ≡ length (staircase_chain members rec) =
    by_chain (staircase_chain members rec) is_chain are_steps all (omega arith) in
    omega arith
  where
    is_step : (prefix : PrefixValue) → Among prefix (staircase_members members rec) → IsChainMember members rec prefix
    is_step prefix among =
        let kept = among-filter (λ p. covers p rec) prefix members among in
        record { among = kept.0; covered = kept.1 }

    is_chain : IsChain (staircase_chain members rec)
    is_chain =
        chain_from_ordered_members members rec (staircase_members members rec) incomparable
        (AllPairs-filter (λ prefix other. prefix ≢ other) (λ prefix. covers prefix rec) members
        incomparable.distinct) is_step

    are_steps : (prefix : PrefixValue) → Among prefix (staircase_chain members rec) → IsChainMember members rec prefix
    are_steps prefix among = is_step prefix (ordered_by-adds_none chain_source_bits prefix (staircase_members members rec) among)

    all : (prefix : PrefixValue) → IsChainMember members rec prefix → Among prefix (staircase_chain members rec)
    all prefix step =
        ordered_by-keeps chain_source_bits prefix (staircase_members members rec)
        (filter-among (λ p. covers p rec) prefix members step.among step.covered)

    first_or_later : (prefix step : PrefixValue) (later : List PrefixValue) → Among prefix (step ∷ later)
        → (chain_source_bits prefix ≤ chain_source_bits step) ⊎ Among prefix later
    first_or_later prefix step later (inl same) = inl (omega (arith, ap chain_source_bits same))
    first_or_later prefix step later (inr among) = inr among

    by_chain : (chain : List PrefixValue) → IsChain chain
        → ((prefix : PrefixValue) → Among prefix chain → IsChainMember members rec prefix)
        → ((prefix : PrefixValue) → IsChainMember members rec prefix → Among prefix chain) → 1 ≤ length chain
        → pair_count (keeps_pair members rec) chain + 1 ≡ length chain
    by_chain [] chain steps each some_step = absurd (omega arith)
    by_chain (step ∷ later) chain steps each some_step = staircase_neighbours-count members rec step later incomparable (record {
      steps = steps;
      chain = chain;
      all = λ prefix is_member. first_or_later prefix step later (each prefix is_member);
    })
