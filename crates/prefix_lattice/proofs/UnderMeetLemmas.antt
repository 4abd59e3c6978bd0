-- Which prefix is under which, and the greatest under two.
use Rattle.std.proofs.Common.{◌≡◌, ◌≢◌, ◌↔◌, ℕ, ◌-◌, ◌*◌, ◌/◌, ◌%◌, ◌^◌, ◌<◌, ◌≤◌, max, Bool, true, false, ◌&&◌, not}
use Rattle.std.proofs.Common.{List, length, take, Option, Some, None, is_some, IfSome, IsSomeAnd, ◌⊎◌, inl, inr}
use Rattle.std.proofs.Common.{refl, sym, ap, ◌∙◌, arith, subst}
use Rattle.std.proofs.lemmas.Bool.{false≢true, and_parts, and_from, cases_lt}
use Rattle.std.proofs.Math.Nat.{mul-div_cancel}
use Rattle.prefix_lattice.specs.Address.{number_from, address_bits, address_of}
use Rattle.prefix_lattice.specs.KeptBits.{begins_with, AreLeadingBits}
use Rattle.prefix_lattice.specs.Grain.{grain_bits}
use Rattle.prefix_lattice.specs.Record.{RecordValue}
use Rattle.prefix_lattice.specs.Prefix.{PrefixValue, IsPrefix, covers, prefix_level}
use Rattle.prefix_lattice.specs.Lattice.{under, same_as, strictly_under}
use Rattle.prefix_lattice.specs.Meets.{meet_side, meet_of_sides, meet}
use Rattle.prefix_lattice.specs.Meets.{AreOverlapping}
use Rattle.prefix_lattice.specs.declared.grain.Grain.{Grain}
use Rattle.prefix_lattice.proofs.AddressLemmas.{address_unit_is_positive, address_front_is_leading}
use Rattle.prefix_lattice.proofs.AddressLemmas.{address_front-length, address_of-small}
use Rattle.prefix_lattice.proofs.AddressLemmas.{address_of-leading, address_tells_leading_bits}
use Rattle.prefix_lattice.proofs.AddressLemmas.{begins_with-address_front}
use Rattle.prefix_lattice.proofs.ListFrontLemmas.{list_front-reflexive, list_front-transitive, list_front-antisymmetric}
use Rattle.prefix_lattice.proofs.ListFrontLemmas.{list_front-no_longer, list_front-shorter, longer_list_front-begins}
use Rattle.prefix_lattice.proofs.ListFrontLemmas.{longer_of_list_fronts}
use Rattle.prefix_lattice.proofs.ListFrontLemmas.{longer_list_front-either, longer_list_front-turned}

pub under_both_sides : (lower upper : PrefixValue) → under lower upper ≡ true
    → (begins_with lower.source upper.source ≡ true) × (begins_with lower.dest upper.dest ≡ true)
under_both_sides lower upper is_under =
    and_parts (begins_with lower.source upper.source) (begins_with lower.dest upper.dest) is_under

pub covers-sides_like_under : (prefix : PrefixValue) (rec : RecordValue) → covers prefix rec ≡ true
    → (begins_with (address_bits rec.src) prefix.source ≡ true)
    × (begins_with (address_bits rec.dst) prefix.dest ≡ true)
covers-sides_like_under prefix rec covered =
    and_parts (begins_with (address_bits rec.src) prefix.source) (begins_with (address_bits rec.dst) prefix.dest)
    covered

-- each prefix is under itself
pub under-refl : (prefix : PrefixValue) → under prefix prefix ≡ true
under-refl prefix = and_from _ _ (list_front-reflexive prefix.source) (list_front-reflexive prefix.dest)

-- what is under a prefix is under all that it is under
pub under-trans : (lower middle upper : PrefixValue) → under lower middle ≡ true → under middle upper ≡ true
    → under lower upper ≡ true
under-trans lower middle upper first second =
    let firsts = under_both_sides lower middle first in
    let seconds = under_both_sides middle upper second in
    and_from _ _ (list_front-transitive lower.source middle.source upper.source firsts.0 seconds.0)
    (list_front-transitive lower.dest middle.dest upper.dest firsts.1 seconds.1)

-- two prefixes with the same sides are the same
pub under_sides_tell_prefix : (prefix other : PrefixValue) → prefix.source ≡ other.source → prefix.dest ≡ other.dest → prefix ≡ other
under_sides_tell_prefix prefix other sources dests =
    let with_source : _ → PrefixValue = λ s. record { source = s; dest = prefix.dest } in
    let with_dest : _ → PrefixValue = λ d. record { source = other.source; dest = d } in
    ap with_source sources ∙ ap with_dest dests

-- two prefixes that are under each other are the same
pub under-antisym : (prefix other : PrefixValue) → under prefix other ≡ true → under other prefix ≡ true
    → prefix ≡ other
under-antisym prefix other first second =
    let firsts = under_both_sides prefix other first in
    let seconds = under_both_sides other prefix second in
    under_sides_tell_prefix prefix other (list_front-antisymmetric prefix.source other.source firsts.0 seconds.0)
    (list_front-antisymmetric prefix.dest other.dest firsts.1 seconds.1)

-- strictly under is under and not equal
pub strictly_under-differs : (lower upper : PrefixValue)
    → (strictly_under lower upper ≡ true) ↔ ((under lower upper ≡ true) × (lower ≢ upper))
strictly_under-differs lower upper = (
  apart (under lower upper) (under upper lower) refl refl,
  together (under lower upper) (under upper lower) refl refl,
)
  where
    apart : (first second : Bool) → under lower upper ≡ first → under upper lower ≡ second
        → (first && not (first && second)) ≡ true → (first ≡ true) × (lower ≢ upper)
    apart true true is_first is_second strictly = absurd (false≢true strictly)
    apart true false is_first is_second strictly =
        (refl, λ same. false≢true (sym is_second ∙ subst (λ p. under upper p ≡ true) (sym same) (under-refl upper)))
    apart false second is_first is_second strictly = absurd (false≢true strictly)

    together : (first second : Bool) → under lower upper ≡ first → under upper lower ≡ second
        → (first ≡ true) × (lower ≢ upper) → (first && not (first && second)) ≡ true
    together true true is_first is_second strictly = absurd (strictly.1 (under-antisym lower upper is_first is_second))
    together true false is_first is_second strictly = refl
    together false second is_first is_second strictly = strictly.0

-- how strictly under is computed
pub strictly_under-by_tests : (lower upper : PrefixValue) (first second : Bool) → first ≡ under lower upper
    → second ≡ under upper lower → (first && not second) ≡ strictly_under lower upper
strictly_under-by_tests lower upper first second is_first is_second =
    by_first first second ∙ ap (λ b. b && not (b && second)) is_first
    ∙ ap (λ b. under lower upper && not (under lower upper && b)) is_second
  where
    by_first : (first second : Bool) → (first && not second) ≡ (first && not (first && second))
    by_first true second = refl
    by_first false second = refl

-- where a prefix is under another, it is strictly under it unless the other is under it too
pub strictly_under_unless_back : (lower upper : PrefixValue) (back : Bool) → under lower upper ≡ true → back ≡ under upper lower
    → (not back ≡ true) ↔ ((under lower upper ≡ true) × (lower ≢ upper))
strictly_under_unless_back lower upper back is_under is_back =
    let is_strictly : not back ≡ strictly_under lower upper =
    strictly_under-by_tests lower upper true back (sym is_under) is_back in
    subst (λ (test : Bool). (test ≡ true) ↔ ((under lower upper ≡ true) × (lower ≢ upper))) (sym is_strictly)
    (strictly_under-differs lower upper)

-- what is under a prefix, and not strictly, is that prefix
pub same_unless_strictly_under : (lower upper : PrefixValue) → under lower upper ≡ true
    → strictly_under lower upper ≡ false → lower ≡ upper
same_unless_strictly_under lower upper is_under not_strictly = by_test (under upper lower) refl
  where
    by_test : (second : Bool) → under upper lower ≡ second → lower ≡ upper
    by_test true is_second = under-antisym lower upper is_under is_second
    by_test false is_second =
        absurd
        (false≢true (sym not_strictly ∙ sym (strictly_under-by_tests lower upper true false (sym is_under) (sym is_second))))

-- going up strictly the level falls
pub strictly_under-is_deeper : (lower upper : PrefixValue) → strictly_under lower upper ≡ true
    → prefix_level upper < prefix_level lower
strictly_under-is_deeper lower upper strictly = by_level (cases_lt (prefix_level upper) (prefix_level lower))
  where
    parts : (under lower upper ≡ true) × (lower ≢ upper)
    parts = (strictly_under-differs lower upper).0 strictly

    by_level : (prefix_level upper < prefix_level lower)
        ⊎ (prefix_level lower ≤ prefix_level upper)
        → prefix_level upper < prefix_level lower
    by_level (inl falls) = falls
    by_level (inr no_fall) =
        let sides = under_both_sides lower upper parts.0 in
        let sources : length upper.source ≤ length lower.source =
        list_front-no_longer lower.source upper.source sides.0 in
        let dests : length upper.dest ≤ length lower.dest = list_front-no_longer lower.dest upper.dest sides.1 in
        let back : under upper lower ≡ true =
        and_from _ _
        (list_front-shorter lower.source upper.source lower.source sides.0 (list_front-reflexive lower.source)
        (omega arith))
        (list_front-shorter lower.dest upper.dest lower.dest sides.1 (list_front-reflexive lower.dest) (omega arith)) in
        absurd (parts.1 (under-antisym lower upper parts.0 back))

-- what is under a prefix that is strictly under another is strictly under that one
pub strictly_under-trans : (lower middle upper : PrefixValue) → under lower middle ≡ true
    → strictly_under middle upper ≡ true → strictly_under lower upper ≡ true
strictly_under-trans lower middle upper is_under strictly =
    let parts = (strictly_under-differs middle upper).0 strictly in
    (strictly_under-differs lower upper).1 (
      under-trans lower middle upper is_under parts.0,
      λ same. parts.1 (under-antisym middle upper parts.0 (subst (λ p. under p middle ≡ true) same is_under)),
    )

pub under_same_prefix-refl : (prefix : PrefixValue) → same_as prefix prefix ≡ true
under_same_prefix-refl prefix = and_from _ _ (under-refl prefix) (under-refl prefix)

-- a record that a prefix covers is covered by all that the prefix is under
pub covers-up_from_under : (lower upper : PrefixValue) (rec : RecordValue) → under lower upper ≡ true → covers lower rec ≡ true
    → covers upper rec ≡ true
covers-up_from_under lower upper rec is_under covered =
    let sides = under_both_sides lower upper is_under in
    let covers_sides = covers-sides_like_under lower rec covered in
    and_from _ _ (list_front-transitive (address_bits rec.src) lower.source upper.source covers_sides.0 sides.0)
    (list_front-transitive (address_bits rec.dst) lower.dest upper.dest covers_sides.1 sides.1)

-- the sides of a meet are the longer of the two lists on each side
pub record MeetIsLonger (prefix other lowest : PrefixValue) : Type 0 where
  pub source : meet_side prefix.source other.source ≡ Some lowest.source
  pub dest : meet_side prefix.dest other.dest ≡ Some lowest.dest

pub meet_is_longer : (prefix other lowest : PrefixValue) → meet prefix other ≡ Some lowest
    → MeetIsLonger prefix other lowest
meet_is_longer prefix other lowest =
    of_sides (meet_side prefix.source other.source) (meet_side prefix.dest other.dest) refl refl
  where
    of_sides : (source dest : Option (List ℕ)) → meet_side prefix.source other.source ≡ source
        → meet_side prefix.dest other.dest ≡ dest
        → meet_of_sides source dest ≡ Some lowest → MeetIsLonger prefix other lowest
    of_sides (Some source) (Some dest) is_source is_dest same =
        let whole : record { source = source; dest = dest } ≡ lowest = cc in
        record {
          source = is_source ∙ ap (λ (p : PrefixValue). Some p.source) whole;
          dest = is_dest ∙ ap (λ (p : PrefixValue). Some p.dest) whole;
        }
    of_sides (Some source) None is_source is_dest same = absurd (cc)
    of_sides None dest is_source is_dest same = absurd (cc)

-- a meet is under both
pub meet-under : (prefix other lowest : PrefixValue) → meet prefix other ≡ Some lowest
    → (under lowest prefix ≡ true) × (under lowest other ≡ true)
meet-under prefix other lowest found =
    let sides = meet_is_longer prefix other lowest found in
    let sources = longer_list_front-begins prefix.source other.source lowest.source sides.source in
    let dests = longer_list_front-begins prefix.dest other.dest lowest.dest sides.dest in
    (and_from _ _ sources.0 dests.0, and_from _ _ sources.1 dests.1)

pub meet_under_both : (prefix other : PrefixValue) (found : Option PrefixValue) → found ≡ meet prefix other
    → IfSome found (λ lowest. (under lowest prefix ≡ true) × (under lowest other ≡ true))
meet_under_both prefix other None is = tt
meet_under_both prefix other (Some lowest) is = meet-under prefix other lowest (sym is)

-- where two lists begin with both sides of two prefixes, the prefixes meet, and the lists begin with the sides of
-- the meet
pub record IsMeet (prefix other lowest : PrefixValue) (source dest : List ℕ) : Type 0 where
  pub is : meet prefix other ≡ Some lowest
  pub source_begins : begins_with source lowest.source ≡ true
  pub dest_begins : begins_with dest lowest.dest ≡ true
  pub source_length : length lowest.source ≡ max (length prefix.source) (length other.source)
  pub dest_length : length lowest.dest ≡ max (length prefix.dest) (length other.dest)

pub meet_of : (prefix other : PrefixValue) (source dest : List ℕ) → begins_with source prefix.source ≡ true
    → begins_with source other.source ≡ true
    → begins_with dest prefix.dest ≡ true → begins_with dest other.dest ≡ true
    → (lowest : PrefixValue) × IsMeet prefix other lowest source dest
meet_of prefix other source dest source_begins source_other dest_begins dest_other =
    let on_source = longer_of_list_fronts source prefix.source other.source source_begins source_other in
    let on_dest = longer_of_list_fronts dest prefix.dest other.dest dest_begins dest_other in (
      record { source = on_source.0; dest = on_dest.0 },
      record {
        is =
            ap (λ s. meet_of_sides s (meet_side prefix.dest other.dest)) on_source.1.is
            ∙ ap (λ d. meet_of_sides (Some on_source.0) d) on_dest.1.is;
        source_begins = on_source.1.begins;
        dest_begins = on_dest.1.begins;
        source_length = on_source.1.is_length;
        dest_length = on_dest.1.is_length;
      },
    )

-- the meet is the same whichever prefix is named first
pub meet-turned : (prefix other : PrefixValue) → meet prefix other ≡ meet other prefix
meet-turned prefix other =
    ap (λ s. meet_of_sides s (meet_side prefix.dest other.dest)) (longer_list_front-turned prefix.source other.source)
    ∙ ap (λ d. meet_of_sides (meet_side other.source prefix.source) d) (longer_list_front-turned prefix.dest other.dest)

-- two prefixes that cover one record meet, and their meet covers it
pub meet-covers : (prefix other : PrefixValue) (rec : RecordValue) → covers prefix rec ≡ true → covers other rec ≡ true
    → (lowest : PrefixValue) × IsMeet prefix other lowest (address_bits rec.src) (address_bits rec.dst)
meet-covers prefix other rec covered covered_by_other =
    let sides = covers-sides_like_under prefix rec covered in
    let others = covers-sides_like_under other rec covered_by_other in
    meet_of prefix other (address_bits rec.src) (address_bits rec.dst) sides.0 others.0 sides.1 others.1

-- a prefix under two others is under their meet
pub meet-greatest : (prefix other lower : PrefixValue) → under lower prefix ≡ true → under lower other ≡ true
    → IsSomeAnd (meet prefix other) (λ lowest. under lower lowest ≡ true)
meet-greatest prefix other lower is_under under_other =
    let sides = under_both_sides lower prefix is_under in
    let others = under_both_sides lower other under_other in
    let found = meet_of prefix other lower.source lower.dest sides.0 others.0 sides.1 others.1 in
    subst (λ o. IsSomeAnd o (λ lowest. under lower lowest ≡ true)) (sym found.1.is)
    (and_from _ _ found.1.source_begins found.1.dest_begins)

-- the meet of two prefixes is a prefix
pub meet-IsPrefix : {grain : Grain} (prefix other lowest : PrefixValue) → IsPrefix grain prefix → IsPrefix grain other
    → meet prefix other ≡ Some lowest → IsPrefix grain lowest
meet-IsPrefix {grain} prefix other lowest valid other_valid found =
    let sides = meet_is_longer prefix other lowest found in
    record {
      source =
          longer_list_front-either AreLeadingBits prefix.source other.source lowest.source sides.source valid.source
          other_valid.source;
      dest = longer_list_front-either AreLeadingBits prefix.dest other.dest lowest.dest sides.dest valid.dest other_valid.dest;
      source_steps =
          longer_list_front-either (λ front. length front % grain_bits grain ≡ 0) prefix.source other.source lowest.source
          sides.source valid.source_steps other_valid.source_steps;
      dest_steps =
          longer_list_front-either (λ front. length front % grain_bits grain ≡ 0) prefix.dest other.dest lowest.dest
          sides.dest valid.dest_steps other_valid.dest_steps;
    }

-- the address of leading bits has zeros after them
under_meet-zeros_after : (front : List ℕ)
    → address_of front / 2 ^ (32 - length front) * 2 ^ (32 - length front) ≡ address_of front
under_meet-zeros_after front =
    let unit = 2 ^ (32 - length front) in
    ap (λ m. m * unit) (mul-div_cancel (number_from 2 0 front) (address_unit_is_positive (32 - length front)))

-- the address of leading bits begins with them
pub under_meet-address_begins : (front : List ℕ) → AreLeadingBits front
    → begins_with (address_bits (address_of front)) front ≡ true
under_meet-address_begins front leading =
    let n = length front in
    let own = take n (address_bits (address_of front)) in
    let small = address_of-small front leading in
    begins_with-address_front (address_bits (address_of front)) front
    (address_tells_leading_bits own front (address_front_is_leading n (address_of front) leading.few) leading
    (address_front-length n (address_of front) leading.few)
    (address_of-leading n (address_of front) leading.few small ∙ under_meet-zeros_after front))

-- two prefixes share a pair of addresses exactly where they meet
pub meet-some : {grain : Grain} (prefix other : PrefixValue) → IsPrefix grain prefix → IsPrefix grain other
    → (is_some (meet prefix other) ≡ true) ↔ AreOverlapping prefix other
meet-some prefix other valid other_valid = (shared (meet prefix other) refl, found)
  where
    shared : (o : Option PrefixValue) → meet prefix other ≡ o → is_some o ≡ true → AreOverlapping prefix other
    shared None is some = absurd (false≢true some)
    shared (Some lowest) is some =
        let lowest_valid = meet-IsPrefix prefix other lowest valid other_valid is in
        let own : RecordValue = record { src = address_of lowest.source; dst = address_of lowest.dest; weight = 1 } in
        let covered : covers lowest own ≡ true =
        and_from _ _ (under_meet-address_begins lowest.source lowest_valid.source)
        (under_meet-address_begins lowest.dest lowest_valid.dest) in
        let both = meet-under prefix other lowest is in
        record {
          pair = own;
          is_source = address_of-small lowest.source lowest_valid.source;
          is_dest = address_of-small lowest.dest lowest_valid.dest;
          covered = covers-up_from_under lowest prefix own both.0 covered;
          covered_by_other = covers-up_from_under lowest other own both.1 covered;
        }

    found : AreOverlapping prefix other → is_some (meet prefix other) ≡ true
    found shares = ap is_some (meet-covers prefix other shares.pair shares.covered shares.covered_by_other).1.is
