-- The chain of incomparable prefixes that cover a record: their kept source bits rise and their kept destination
-- bits fall.
use Rattle.std.proofs.Common.{◌≡◌, ◌≢◌, ℕ, ◌<◌, ◌≤◌, Bool, true, false, ltb, cond, List, [], ◌∷◌, length, ◌⊎◌, inl}
use Rattle.std.proofs.Common.{inr, refl, sym, arith, subst}
use Rattle.std.specs.List.{AllPairs}
use Rattle.std.proofs.lemmas.Bool.{and_from, cases_lt, ltb-true, ltb-false}
use Rattle.prefix_lattice.specs.Address.{address_bits}
use Rattle.prefix_lattice.specs.Record.{RecordValue}
use Rattle.prefix_lattice.specs.Prefix.{PrefixValue, covers}
use Rattle.prefix_lattice.specs.Lattice.{under, strictly_under}
use Rattle.prefix_lattice.specs.ClosestLines.{AreIncomparable}
use Rattle.prefix_lattice.proofs.ListFrontLemmas.{list_front-no_longer, list_front-shorter}
use Rattle.prefix_lattice.proofs.ListLemmas.{AllPairs-list_head, AllPairs-list_tail}
use Rattle.prefix_lattice.proofs.AmongLemmas.{Among, among-All, pairs-among}
use Rattle.prefix_lattice.proofs.OrderedCountLemmas.{ordered_insert, ordered_by, ordered_insert-cases}
use Rattle.prefix_lattice.proofs.OrderedCountLemmas.{ordered_by-adds_none}
use Rattle.prefix_lattice.proofs.UnderMeetLemmas.{under_both_sides, covers-sides_like_under, same_unless_strictly_under}

-- how many bits a prefix keeps of the source, and of the destination
abbrev pub chain_source_bits : PrefixValue → ℕ
chain_source_bits prefix = length prefix.source

abbrev pub chain_dest_bits : PrefixValue → ℕ
chain_dest_bits prefix = length prefix.dest

-- a member that covers the record
pub record IsChainMember (members : List PrefixValue) (rec : RecordValue) (prefix : PrefixValue) : Type 0 where
  pub among : Among prefix members
  pub covered : covers prefix rec ≡ true

-- of two prefixes that cover a record, one is under the other if it keeps at least as many bits on both sides
pub under-by_chain_bytes : (rec : RecordValue) (lower upper : PrefixValue) → covers lower rec ≡ true
    → covers upper rec ≡ true
    → chain_source_bits upper ≤ chain_source_bits lower → chain_dest_bits upper ≤ chain_dest_bits lower → under lower upper ≡ true
under-by_chain_bytes rec lower upper covered upper_covered sources dests =
    let sides = covers-sides_like_under lower rec covered in
    let uppers = covers-sides_like_under upper rec upper_covered in
    and_from _ _ (list_front-shorter (address_bits rec.src) lower.source upper.source sides.0 uppers.0 sources)
    (list_front-shorter (address_bits rec.dst) lower.dest upper.dest sides.1 uppers.1 dests)

-- a prefix under another keeps at least as many bits on both sides
pub chain_bytes-by_under : (lower upper : PrefixValue) → under lower upper ≡ true
    → (chain_source_bits upper ≤ chain_source_bits lower) × (chain_dest_bits upper ≤ chain_dest_bits lower)
chain_bytes-by_under lower upper is_under =
    let sides = under_both_sides lower upper is_under in
    (list_front-no_longer lower.source upper.source sides.0, list_front-no_longer lower.dest upper.dest sides.1)

-- a member that is under another is that member
pub chain_member_under_is_same : (members : List PrefixValue) (prefix other : PrefixValue) → AreIncomparable members
    → Among prefix members → Among other members → under prefix other ≡ true → prefix ≡ other
chain_member_under_is_same members prefix other incomparable among other_among is_under =
    either (pairs-among (λ x y. (strictly_under x y ≡ false) × (strictly_under y x ≡ false))
    (λ x y both. (both.1, both.0)) prefix other members incomparable.none_under among other_among)
  where
    either : ((prefix ≡ other) ⊎ ((strictly_under prefix other ≡ false) × (strictly_under other prefix ≡ false)))
        → prefix ≡ other
    either (inl same) = same
    either (inr none) = same_unless_strictly_under prefix other is_under none.0

-- a step down the chain: more source bytes are kept, and fewer destination bits
pub record DescendsChain (prefix next : PrefixValue) : Type 0 where
  pub source : chain_source_bits prefix < chain_source_bits next
  pub dest : chain_dest_bits next < chain_dest_bits prefix

-- of two distinct members that cover a record, one descends to the other
pub chain_descends_either_way : (members : List PrefixValue) (rec : RecordValue) (prefix other : PrefixValue)
    → AreIncomparable members → IsChainMember members rec prefix → IsChainMember members rec other → prefix ≢ other
    → DescendsChain prefix other ⊎ DescendsChain other prefix
chain_descends_either_way members rec prefix other incomparable step other_step differ =
    by_lengths (cases_lt (chain_source_bits prefix) (chain_source_bits other))
    (cases_lt (chain_source_bits other) (chain_source_bits prefix)) (cases_lt (chain_dest_bits prefix) (chain_dest_bits other))
    (cases_lt (chain_dest_bits other) (chain_dest_bits prefix))
  where
    not_under : chain_source_bits other ≤ chain_source_bits prefix → chain_dest_bits other ≤ chain_dest_bits prefix → ⊥
    not_under sources dests =
        differ (chain_member_under_is_same members prefix other incomparable step.among other_step.among
        (under-by_chain_bytes rec prefix other step.covered other_step.covered sources dests))

    not_over : chain_source_bits prefix ≤ chain_source_bits other → chain_dest_bits prefix ≤ chain_dest_bits other → ⊥
    not_over sources dests =
        differ (sym (chain_member_under_is_same members other prefix incomparable other_step.among step.among
        (under-by_chain_bytes rec other prefix other_step.covered step.covered sources dests)))

    by_lengths : (chain_source_bits prefix < chain_source_bits other) ⊎ (chain_source_bits other ≤ chain_source_bits prefix)
        → (chain_source_bits other < chain_source_bits prefix) ⊎ (chain_source_bits prefix ≤ chain_source_bits other)
        → (chain_dest_bits prefix < chain_dest_bits other) ⊎ (chain_dest_bits other ≤ chain_dest_bits prefix)
        → (chain_dest_bits other < chain_dest_bits prefix) ⊎ (chain_dest_bits prefix ≤ chain_dest_bits other)
        → DescendsChain prefix other ⊎ DescendsChain other prefix
    by_lengths (inl rises) back dest (inl falls) = inl (record { source = rises; dest = falls })
    by_lengths (inl rises) back dest (inr not_falls) = absurd (not_over (omega arith) not_falls)
    by_lengths (inr not_rises) (inl back) (inl falls) dest = inr (record { source = back; dest = falls })
    by_lengths (inr not_rises) (inl back) (inr not_falls) dest = absurd (not_under not_rises not_falls)
    by_lengths (inr not_rises) (inr not_back) (inl falls) dest = absurd (not_over not_back (omega arith))
    by_lengths (inr not_rises) (inr not_back) (inr not_falls) dest = absurd (not_under not_rises not_falls)

-- each prefix descends to all later ones
abbrev pub IsChain : List PrefixValue → Type 0
IsChain [] = Unit {0}
IsChain (prefix ∷ rest) = ((next : PrefixValue) → Among next rest → DescendsChain prefix next) × IsChain rest

-- a prefix that descends to or from each member of a chain can be inserted into it
pub chain_has_place_for_prefix : (prefix : PrefixValue) (chain : List PrefixValue) → IsChain chain
    → ((other : PrefixValue) → Among other chain → DescendsChain prefix other ⊎ DescendsChain other prefix)
    → IsChain (ordered_insert chain_source_bits prefix chain)
chain_has_place_for_prefix prefix [] is_chain apart = (λ next among. absurd among, tt)
chain_has_place_for_prefix prefix (first ∷ rest) is_chain apart =
    by_test (chain_has_place_for_prefix prefix rest is_chain.1 (λ other among. apart other (inr among)))
    (ltb (chain_source_bits first) (chain_source_bits prefix)) refl
  where
    before : (DescendsChain prefix first ⊎ DescendsChain first prefix) → chain_source_bits first < chain_source_bits prefix
        → DescendsChain first prefix
    before (inl descends) less = absurd (omega (arith, descends.source))
    before (inr descends) less = descends

    behind : (DescendsChain prefix first ⊎ DescendsChain first prefix) → chain_source_bits prefix ≤ chain_source_bits first
        → DescendsChain prefix first
    behind (inl descends) more = descends
    behind (inr descends) more = absurd (omega (arith, descends.source))

    of_put : DescendsChain first prefix → (next : PrefixValue) → (next ≡ prefix) ⊎ Among next rest → DescendsChain first next
    of_put descends next (inl same) = subst (DescendsChain first) (sym same) descends
    of_put descends next (inr among) = is_chain.0 next among

    of_first : DescendsChain prefix first → (next : PrefixValue) → Among next (first ∷ rest) → DescendsChain prefix next
    of_first descends next (inl same) = subst (DescendsChain prefix) (sym same) descends
    of_first descends next (inr among) =
        let further = is_chain.0 next among in
        record {
          source = omega (arith, descends.source, further.source);
          dest = omega (arith, descends.dest, further.dest);
        }

    by_test : IsChain (ordered_insert chain_source_bits prefix rest) → (less : Bool)
        → ltb (chain_source_bits first) (chain_source_bits prefix) ≡ less
        → IsChain (cond less (first ∷ ordered_insert chain_source_bits prefix rest) (prefix ∷ first ∷ rest))
    by_test in_rest true is =
        let descends = before (apart first (inl refl)) (ltb-true (chain_source_bits first) (chain_source_bits prefix) is) in
        (λ next among. of_put descends next (ordered_insert-cases chain_source_bits next prefix rest among), in_rest)
    by_test in_rest false is =
        let descends = behind (apart first (inl refl)) (ltb-false (chain_source_bits first) (chain_source_bits prefix) is) in
        (of_first descends, is_chain)

-- distinct members that cover a record form a chain, once their kept source bits rise
pub chain_from_ordered_members : (members : List PrefixValue) (rec : RecordValue) (steps : List PrefixValue)
    → AreIncomparable members
    → AllPairs (λ prefix other. prefix ≢ other) steps
    → ((prefix : PrefixValue) → Among prefix steps → IsChainMember members rec prefix)
    → IsChain (ordered_by chain_source_bits steps)
chain_from_ordered_members members rec [] incomparable distinct are_steps = tt
chain_from_ordered_members members rec (first ∷ rest) incomparable distinct are_steps =
    chain_has_place_for_prefix first (ordered_by chain_source_bits rest)
    (chain_from_ordered_members members rec rest incomparable
    (AllPairs-list_tail (λ prefix other. prefix ≢ other) first rest distinct)
    (λ prefix among. are_steps prefix (inr among)))
    (λ other among.
    let other_among = ordered_by-adds_none chain_source_bits other rest among in
    chain_descends_either_way members rec first other incomparable (are_steps first (inl refl))
    (are_steps other (inr other_among))
    (among-All (λ later. first ≢ later) other rest
    (AllPairs-list_head (λ prefix other. prefix ≢ other) first rest distinct) other_among))
