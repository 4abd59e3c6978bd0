-- Worked examples of the definitions, most by computing.
use Rattle.std.proofs.Common.{◌≡◌, ◌≢◌, ◌<◌, ℕ, List, [], ◌∷◌, Some, None, refl, arith, set, lit<, lit≤}
use Rattle.std.proofs.lemmas.List.Elements.{All-from_recursion}
use Rattle.stream_summary.specs.Links.{AreLinked, walked}
use Rattle.stream_summary.specs.Ring.{AreDistinct, AreRingLinks, IsFirstOf, IsIn, IsLastOf}
use Rattle.space_saving.specs.declared.entry.Entry.{Entry}
use Rattle.stream_summary.specs.declared.numbers.BucketNumber.{BucketNumber}
use Rattle.stream_summary.specs.declared.numbers.EntryNumber.{EntryNumber}
use Rattle.stream_summary.specs.declared.slot.Bucket.{Bucket}
use Rattle.stream_summary.specs.declared.slot.Slot.{Slot}
use Rattle.stream_summary.specs.Lists.{Pairwise, numbers_below}
use Rattle.stream_summary.specs.Buckets.{GoesBefore, IsBelow, bucket_of, count_of, counts_left, entries_at, free_count}
use Rattle.stream_summary.specs.Buckets.{keys_of, last_of}
use Rattle.stream_summary.specs.Arena.{begun, given_back, heir_entry, raised_entry, with_last}
use Rattle.stream_summary.proofs.InOrderLemmas.{all_at_in}
use Rattle.stream_summary.proofs.RingLemmas.{ring_links_without}

-- The ring 2, 0 of numbers below 3: cell 3 is that of the ends, and nothing leads to cell 1
abbrev nexts : List ℕ
nexts = 3 ∷ 3 ∷ 0 ∷ 2 ∷ []

abbrev befores : List ℕ
befores = 2 ∷ 3 ∷ 3 ∷ 0 ∷ []

pub two_steps : walked 2 nexts 3 ≡ 2 ∷ 0 ∷ []
two_steps = refl

pub two_are_linked : AreLinked nexts befores 3 (2 ∷ 0 ∷ []) 3
two_are_linked = (refl, refl, (refl, refl, (refl, refl)))

-- where only one way leads on, cells aren't linked
pub one_way_is_not_linked : AreLinked nexts (2 ∷ 3 ∷ 3 ∷ 2 ∷ []) 3 (2 ∷ 0 ∷ []) 3 → ⊥
one_way_is_not_linked linked = omega (arith, linked.2.2.1)

pub two_are_distinct : AreDistinct (2 ∷ 0 ∷ [])
two_are_distinct = (
  All-from_recursion (λ other. other ≢ 2) (0 ∷ []) ((λ same. omega (arith, same)), tt),
  (All-from_recursion (λ other. other ≢ 0) [] tt, tt),
)

pub one_twice_is_not : AreDistinct (1 ∷ 0 ∷ 1 ∷ []) → ⊥
one_twice_is_not distinct = distinct.0 1 0 (lit< tt) refl

pub ring_of_two : AreRingLinks 3 2 nexts befores (2 ∷ 0 ∷ [])
ring_of_two = record {
  few = lit≤ tt;
  cells_on = refl;
  cells_back = refl;
  long = refl;
  ring = record {
    below = All-from_recursion (λ number. number < 3) (2 ∷ 0 ∷ []) (lit< tt, (lit< tt, tt));
    distinct = two_are_distinct;
    fits = lit≤ tt;
  };
  linked = two_are_linked;
}

pub two_is_first : IsFirstOf 2 (2 ∷ 0 ∷ [])
two_is_first = (0 ∷ [], refl)

pub zero_is_last : IsLastOf 0 (2 ∷ 0 ∷ [])
zero_is_last = (2 ∷ [], refl)

pub one_is_nowhere : IsIn 1 (2 ∷ 0 ∷ []) → ⊥
one_is_nowhere there = all_at_in (λ number. number ≢ 1) 1 (2 ∷ 0 ∷ [])
    (All-from_recursion (λ number. number ≢ 1) (2 ∷ 0 ∷ [])
    ((λ same. omega (arith, same)), ((λ same. omega (arith, same)), tt))) there refl

-- the number 1 comes behind 2: cells 2 and 1 are joined, then cells 1 and 0
pub one_behind_two : walked 3 (set (set nexts 2 1) 1 0) 3 ≡ 2 ∷ 1 ∷ 0 ∷ []
one_behind_two = refl

-- the number 2 leaves: the cells 3 and 0 are joined
pub without_two : AreRingLinks 3 1 (set nexts 3 0) (set befores 0 3) (0 ∷ [])
without_two = ring_links_without 3 2 nexts befores [] 2 (0 ∷ []) ring_of_two

-- Keys 7 and 8 have count 1 and stand in bucket 0, of which 8 came last; key 9 has count 5 and error 1, in bucket 2. Bucket 1 is
-- free.
abbrev entry_number : ℕ → EntryNumber
entry_number n = record { 0 = n }

abbrev bucket_number : ℕ → BucketNumber
bucket_number n = record { 0 = n }

abbrev slots : List Slot
slots = record { key = 7; error = 0; bucket = bucket_number 0 } ∷ record { key = 9; error = 1; bucket = bucket_number 2 }
    ∷ record { key = 8; error = 0; bucket = bucket_number 0 } ∷ []

abbrev buckets : List Bucket
buckets = record { count = 1; last = entry_number 2 } ∷ record { count = free_count; last = entry_number 0 }
    ∷ record { count = 5; last = entry_number 1 } ∷ []

abbrev an_entry : ℕ → ℕ → ℕ → Entry
an_entry key count error = record { key = key; count = count; error = error }

pub three_numbers : numbers_below 3 ≡ 0 ∷ 1 ∷ 2 ∷ []
three_numbers = refl

pub keys_by_place : keys_of slots ≡ 7 ∷ 9 ∷ 8 ∷ []
keys_by_place = refl

pub entries_in_their_order : entries_at slots buckets (0 ∷ 2 ∷ 1 ∷ []) ≡ an_entry 7 1 0 ∷ an_entry 8 1 0 ∷ an_entry 9 5 1 ∷ []
entries_in_their_order = refl

-- of two entries in one bucket the first isn't its last
pub seven_before_eight : GoesBefore (bucket_of slots) (count_of buckets) (last_of buckets) 0 2
seven_before_eight = record { apart = λ same. omega (arith, same); rises = omega arith; ends = λ ends. absurd (omega (arith, ends)) }

pub eight_not_before_seven : GoesBefore (bucket_of slots) (count_of buckets) (last_of buckets) 2 0 → ⊥
eight_not_before_seven before = let less : 1 < 1 = before.ends refl in omega arith

pub buckets_in_their_order : Pairwise (IsBelow (count_of buckets)) (0 ∷ 2 ∷ 1 ∷ [])
buckets_in_their_order = (
  (
    record { apart = λ same. omega (arith, same); rises = lit≤ tt; strictly = λ _. lit< tt },
    (record { apart = λ same. omega (arith, same); rises = lit≤ tt; strictly = λ _. lit< tt }, tt),
  ),
  ((record { apart = λ same. omega (arith, same); rises = lit≤ tt; strictly = λ _. lit< tt }, tt), (tt, tt)),
)

-- a search for the count 7 that has found bucket 2 has two counts still before it
pub two_counts_left : counts_left buckets 7 (Some (bucket_number 2)) ≡ 2
two_counts_left = refl

pub eight_counts_left : counts_left buckets 7 None ≡ 8
eight_counts_left = refl

pub seven_is_last_now : last_of (with_last buckets 0 (entry_number 0)) 0 ≡ 0
seven_is_last_now = refl

pub bucket_given_back : count_of (given_back buckets 2) 2 ≡ free_count
bucket_given_back = refl

pub bucket_begun : count_of (begun buckets 1 3 (entry_number 0)) 1 ≡ 3
bucket_begun = refl

pub entry_raised : raised_entry 4 (an_entry 7 1 0) ≡ an_entry 7 5 0
entry_raised = refl

pub entry_of_an_heir : heir_entry 6 4 (an_entry 7 1 0) ≡ an_entry 6 5 1
entry_of_an_heir = refl
