-- The closest lines of a prefix, and the meets of their kept pairs.
use Rattle.std.proofs.Common.{◌≡◌, ◌≢◌, ℕ, ◌<◌, zero, suc, Bool, true, false, cond, not, List, [], ◌∷◌, Option}
use Rattle.std.proofs.Common.{None, Some, refl, arith}
use Rattle.std.specs.List.{All, AllPairs, list_any, filter_map}
use Rattle.std.proofs.lemmas.Bool.{not-true, not_from_false}
use Rattle.std.proofs.lemmas.List.Elements.{All-nil, All-append, All-head, All-tail}
use Rattle.std.proofs.lemmas.List.Kept.{AllPairs-filter}
use Rattle.prefix_lattice.specs.Record.{RecordValue}
use Rattle.prefix_lattice.specs.Prefix.{PrefixValue, IsPrefix, covers, prefix_level}
use Rattle.prefix_lattice.specs.Lattice.{strictly_under}
use Rattle.prefix_lattice.specs.Meets.{meet}
use Rattle.prefix_lattice.specs.ClosestLines.{lines_under, one_line_covers, greatest_lines, closest}
use Rattle.prefix_lattice.specs.KeptPairs.{under_third}
use Rattle.prefix_lattice.specs.KeptPairs.{unless_third, pair_meet, pair_meets}
use Rattle.prefix_lattice.specs.KeptPairs.{kept_pairs}
use Rattle.prefix_lattice.specs.ClosestLines.{AreIncomparable}
use Rattle.prefix_lattice.specs.declared.grain.Grain.{Grain}
use Rattle.prefix_lattice.proofs.AddressLemmas.{address_tests_agree}
use Rattle.prefix_lattice.proofs.AmongLemmas.{Among, PassesAmong, All-from_among, among-All, any_among-true}
use Rattle.prefix_lattice.proofs.AmongLemmas.{any_among-found, any_among-fails, among-filter, filter-among}
use Rattle.prefix_lattice.proofs.AmongLemmas.{AllPairs-from_among, All-filter_map_among}
use Rattle.prefix_lattice.proofs.UnderMeetLemmas.{strictly_under-differs, strictly_under-is_deeper}
use Rattle.prefix_lattice.proofs.UnderMeetLemmas.{strictly_under-trans, covers-up_from_under}
use Rattle.prefix_lattice.proofs.UnderMeetLemmas.{meet-under, meet-IsPrefix}

-- a greatest member is a member that is strictly under none
closest_is_strictly_under_none : (member : PrefixValue) (members : List PrefixValue) → Among member (greatest_lines members)
    → Among member members × (list_any (λ other. strictly_under member other) members ≡ false)
closest_is_strictly_under_none member members among =
    let kept = among-filter (λ p. not (list_any (λ other. strictly_under p other) members)) member members among in
    (kept.0, not-true _ kept.1)

-- from a member that covers a record the way up ends at a greatest one that covers it
climb_to_closest : (members : List PrefixValue) (rec : RecordValue) (bound : ℕ) (member : PrefixValue) → Among member members
    → covers member rec ≡ true → prefix_level member < bound
    → PassesAmong (λ p. covers p rec) (greatest_lines members)
climb_to_closest members rec zero member among covered low = absurd (omega arith)
climb_to_closest members rec (suc bound) member among covered low =
    by_test (climb_to_closest members rec bound) (list_any (λ other. strictly_under member other) members) refl
  where
    by_test : ((other : PrefixValue) → Among other members → covers other rec ≡ true
        → prefix_level other < bound → PassesAmong (λ p. covers p rec) (greatest_lines members))
        → (above : Bool) → list_any (λ other. strictly_under member other) members ≡ above
        → PassesAmong (λ p. covers p rec) (greatest_lines members)
    by_test from false is = record {
      found = member;
      among =
          filter-among (λ p. not (list_any (λ other. strictly_under p other) members)) member members among
          (not_from_false _ is);
      passes = covered;
    }
    by_test from true is =
        let above = any_among-found (λ other. strictly_under member other) members is in
        let level = strictly_under-is_deeper member above.found above.passes in
        from above.found above.among
        (covers-up_from_under member above.found rec ((strictly_under-differs member above.found).0 above.passes).0 covered)
        (omega arith)

-- some member covers a record exactly where some greatest one does
greatest_as_closest-covers : (members : List PrefixValue) (rec : RecordValue)
    → one_line_covers members rec ≡ one_line_covers (greatest_lines members) rec
greatest_as_closest-covers members rec = address_tests_agree (one_line_covers members rec) (one_line_covers (greatest_lines members) rec)
    (λ some.
    let line = any_among-found (λ p. covers p rec) members some in
    let top = climb_to_closest members rec (suc (prefix_level line.found)) line.found line.among line.passes (omega arith) in
    any_among-true (λ p. covers p rec) top.found (greatest_lines members) top.among top.passes)
    (λ some.
    let line = any_among-found (λ p. covers p rec) (greatest_lines members) some in
    any_among-true (λ p. covers p rec) line.found members (closest_is_strictly_under_none line.found members line.among).0 line.passes)

-- the lines under a prefix explain what the closest ones do
pub closest-covers : (prefix : PrefixValue) (lines : List PrefixValue) (rec : RecordValue)
    → one_line_covers (lines_under prefix lines) rec ≡ one_line_covers (closest prefix lines) rec
closest-covers prefix lines rec = greatest_as_closest-covers (lines_under prefix lines) rec

-- each closest line is strictly under the prefix
pub closest-strictly : (prefix : PrefixValue) (lines : List PrefixValue)
    → All (λ line. strictly_under line prefix ≡ true) (closest prefix lines)
closest-strictly prefix lines = All-from_among (λ line. strictly_under line prefix ≡ true) (closest prefix lines)
    (λ line among. (among-filter (λ p. strictly_under p prefix) line lines
    (closest_is_strictly_under_none line (lines_under prefix lines) among).0).1)

-- the closest of distinct lines are incomparable
pub closest-incomparable : (prefix : PrefixValue) (lines : List PrefixValue)
    → AllPairs (λ line other. line ≢ other) lines → AreIncomparable (closest prefix lines)
closest-incomparable prefix lines distinct = record {
  distinct =
      AllPairs-filter Differ (λ p. not (list_any (λ other. strictly_under p other) nearer)) nearer
      (AllPairs-filter Differ (λ p. strictly_under p prefix) lines distinct);
  none_under =
      AllPairs-from_among (λ line other. (strictly_under line other ≡ false) × (strictly_under other line ≡ false))
      (greatest_lines nearer)
      (λ line other among other_among. (none line other among other_among, none other line other_among among));
}
  where
    nearer : List PrefixValue
    nearer = lines_under prefix lines

    Differ : PrefixValue → PrefixValue → Type 0
    Differ line other = line ≢ other

    none : (line other : PrefixValue) → Among line (greatest_lines nearer) → Among other (greatest_lines nearer)
        → strictly_under line other ≡ false
    none line other among other_among =
        any_among-fails (λ p. strictly_under line p) other nearer (closest_is_strictly_under_none line nearer among).1
        (closest_is_strictly_under_none other nearer other_among).0

-- a kept meet is a meet
closest_kept_meet-is_meet : (members : List PrefixValue) (first second lowest : PrefixValue)
    → pair_meet members first second ≡ Some lowest → meet first second ≡ Some lowest
closest_kept_meet-is_meet members first second lowest = by_meet (meet first second)
  where
    by_third : (found : PrefixValue) (third : Bool) → cond third None (Some found) ≡ Some lowest
        → Path (Option PrefixValue) (Some found) (Some lowest)
    by_third found true kept = absurd (cc)
    by_third found false kept = kept

    by_meet : (o : Option PrefixValue) → unless_third members first second o ≡ Some lowest → o ≡ Some lowest
    by_meet None kept = kept
    by_meet (Some found) kept = by_third found (under_third members first second found) kept

-- what a meet inherits from its members holds of the kept meets
closest_kept_meets_inherit : (P : PrefixValue → Type 0) (members some : List PrefixValue)
    → ((first second lowest : PrefixValue) → P first → P second → meet first second ≡ Some lowest → P lowest)
    → All P some → All P (pair_meets members some)
closest_kept_meets_inherit P members [] of_meet all = All-nil P
closest_kept_meets_inherit P members (first ∷ rest) of_meet all =
    All-append P (filter_map (pair_meet members first) rest) (pair_meets members rest)
    (All-filter_map_among P (pair_meet members first) rest
    (λ second lowest among kept. of_meet first second lowest (All-head P first rest all)
    (among-All P second rest (All-tail P first rest all) among)
    (closest_kept_meet-is_meet members first second lowest kept)))
    (closest_kept_meets_inherit P members rest of_meet (All-tail P first rest all))

-- kept meets are strictly under each prefix that all members are strictly under
pub closest_kept_meets_stay_under : (prefix : PrefixValue) (members : List PrefixValue)
    → All (λ member. strictly_under member prefix ≡ true) members
    → All (λ lowest. strictly_under lowest prefix ≡ true) (kept_pairs members)
closest_kept_meets_stay_under prefix members all = closest_kept_meets_inherit (λ p. strictly_under p prefix ≡ true) members members
    (λ first second lowest strictly other found.
    strictly_under-trans lowest first prefix (meet-under first second lowest found).0 strictly) all

-- the kept meets of prefixes are prefixes
pub closest_kept_meets_are_prefixes : (grain : Grain) (members : List PrefixValue) → All (IsPrefix grain) members
    → All (IsPrefix grain) (kept_pairs members)
closest_kept_meets_are_prefixes grain members all = closest_kept_meets_inherit (IsPrefix grain) members members
    (λ first second lowest valid other_valid found. meet-IsPrefix first second lowest valid other_valid found) all
