-- Which pairs of members are kept with a meet that covers a record, and how many.
use Rattle.std.proofs.Common.{◌≡◌, ◌+◌, Bool, true, false, cond, ◌&&◌, ◌||◌, not, List, [], ◌∷◌, Option, None, Some}
use Rattle.std.proofs.Common.{refl, ap, ◌∙◌}
use Rattle.std.specs.List.{filter_map, count_by}
use Rattle.std.proofs.lemmas.Bool.{false≢true}
use Rattle.std.proofs.lemmas.List.Sums.{sum_by-append}
use Rattle.prefix_lattice.specs.Record.{RecordValue}
use Rattle.prefix_lattice.specs.Prefix.{PrefixValue, covers}
use Rattle.prefix_lattice.specs.Lattice.{under, same_as}
use Rattle.prefix_lattice.specs.Meets.{meet}
use Rattle.prefix_lattice.specs.KeptPairs.{under_third, unless_third, pair_meet}
use Rattle.prefix_lattice.specs.KeptPairs.{pair_meets}
use Rattle.prefix_lattice.specs.ClosestLines.{covering_count}
use Rattle.prefix_lattice.proofs.AmongLemmas.{any_among-agrees}
use Rattle.prefix_lattice.proofs.OrderedCountLemmas.{counts_if_some, count_by-filter_map, pair_count}
use Rattle.prefix_lattice.proofs.UnderMeetLemmas.{covers-up_from_under, meet-under, meet-turned}

-- a pair is kept, and its meet covers the record
abbrev pub keeps_pair : List PrefixValue → RecordValue → PrefixValue → PrefixValue → Bool
keeps_pair members rec first second = counts_if_some (λ prefix. covers prefix rec) (pair_meet members first second)

-- the kept meets that cover a record are counted by their pairs
pub kept_pair-count : (members : List PrefixValue) (rec : RecordValue) (some : List PrefixValue)
    → covering_count rec (pair_meets members some) ≡ pair_count (keeps_pair members rec) some
kept_pair-count members rec [] = refl
kept_pair-count members rec (first ∷ rest) =
    sum_by-append (λ prefix. cond (covers prefix rec) 1 0) (filter_map (pair_meet members first) rest)
    (pair_meets members rest)
    ∙ ap (λ n. n + covering_count rec (pair_meets members rest))
    (count_by-filter_map (λ prefix. covers prefix rec) (pair_meet members first) rest)
    ∙ ap (λ n. count_by (keeps_pair members rec first) rest + n) (kept_pair-count members rec rest)

-- whether a prefix is under a third member doesn't depend on the order of the pair
pub kept_pair-third_turned : (members : List PrefixValue) (first second lowest : PrefixValue)
    → under_third members first second lowest ≡ under_third members second first lowest
kept_pair-third_turned members first second lowest = any_among-agrees
    (λ third. under lowest third && not (same_as third first || same_as third second))
    (λ third. under lowest third && not (same_as third second || same_as third first))
    members
    (λ third. ap (λ b. under lowest third && not b) (either (same_as third first) (same_as third second)))
  where
    either : (x y : Bool) → (x || y) ≡ (y || x)
    either true true = refl
    either true false = refl
    either false true = refl
    either false false = refl

pub keeps_pair-turned : (members : List PrefixValue) (rec : RecordValue) (first second : PrefixValue)
    → keeps_pair members rec first second ≡ keeps_pair members rec second first
keeps_pair-turned members rec first second =
    ap (λ o. counts_if_some (λ prefix. covers prefix rec) (unless_third members first second o))
    (meet-turned first second)
    ∙ ap (counts_if_some (λ prefix. covers prefix rec)) (by_meet (meet second first))
  where
    by_meet : (o : Option PrefixValue)
        → unless_third members first second o ≡ unless_third members second first o
    by_meet None = refl
    by_meet (Some lowest) = ap (λ b. cond b None (Some lowest)) (kept_pair-third_turned members first second lowest)

-- whether a pair is kept depends only on its meet and on whether a third member is above the meet
pub keeps_pair-by_kept_meet : (members : List PrefixValue) (rec : RecordValue) (first second lowest : PrefixValue)
    (is_third : Bool) → meet first second ≡ Some lowest → under_third members first second lowest ≡ is_third
    → keeps_pair members rec first second ≡ counts_if_some (λ prefix. covers prefix rec) (cond is_third None (Some lowest))
keeps_pair-by_kept_meet members rec first second lowest is_third found third =
    ap (λ o. counts_if_some (λ prefix. covers prefix rec) (unless_third members first second o)) found
    ∙ ap (λ b. counts_if_some (λ prefix. covers prefix rec) (cond b None (Some lowest))) third

-- where the meet of a kept pair covers a record, so do both members
pub keeps_pair-covers : (members : List PrefixValue) (rec : RecordValue) (first second : PrefixValue)
    → keeps_pair members rec first second ≡ true
    → (covers first rec ≡ true) × (covers second rec ≡ true)
keeps_pair-covers members rec first second = by_meet (meet first second) refl
  where
    by_third : (lowest : PrefixValue) (is_third : Bool)
        → counts_if_some (λ prefix. covers prefix rec) (cond is_third None (Some lowest)) ≡ true
        → covers lowest rec ≡ true
    by_third lowest true kept = absurd (false≢true kept)
    by_third lowest false kept = kept

    by_meet : (o : Option PrefixValue) → meet first second ≡ o
        → counts_if_some (λ prefix. covers prefix rec) (unless_third members first second o) ≡ true
        → (covers first rec ≡ true) × (covers second rec ≡ true)
    by_meet None is kept = absurd (false≢true kept)
    by_meet (Some lowest) is kept =
        let covered = by_third lowest (under_third members first second lowest) kept in
        let both = meet-under first second lowest is in
        (covers-up_from_under lowest first rec both.0 covered, covers-up_from_under lowest second rec both.1 covered)
