-- Lists of numbers of which none is there twice.
use Rattle.std.proofs.Common.{◌≡◌, ◌≢◌, ◌<◌, ◌≤◌, ℕ, List, [], ◌∷◌, ◌++◌, length, get_or, true, false}
use Rattle.std.proofs.Common.{sym, ⊎_elim, arith}
use Rattle.std.specs.List.{All, IsDistinct, list_any}
use Rattle.std.proofs.lemmas.List.Elements.{All-nil, All-cons, All-head, All-tail, All-append, All-weaker}
use Rattle.std.proofs.lemmas.List.Elements.{recursion_from_All}
use Rattle.std.proofs.lemmas.Bool.{ne_eqb, eqb-true, or_cases}
use Rattle.std.proofs.lemmas.Map.Steps.{length-le_from_distinct_below}
use lib.Dec.{eqb}
use Rattle.stream_summary.specs.Ring.{AreDistinct, IsRing}

pub number_all_of_front : (P : ℕ → Type 0) (front back : List ℕ) → All P (front ++ back) → All P front
number_all_of_front P [] back all = All-nil P
number_all_of_front P (number ∷ front) back all = All-cons P number front (All-head P number (front ++ back) all)
    (number_all_of_front P front back (All-tail P number (front ++ back) all))

pub number_all_of_back : (P : ℕ → Type 0) (front back : List ℕ) → All P (front ++ back) → All P back
number_all_of_back P [] back all = all
number_all_of_back P (number ∷ front) back all = number_all_of_back P front back (All-tail P number (front ++ back) all)

-- one in the middle leaves
pub number_all_without : (P : ℕ → Type 0) (front : List ℕ) (number : ℕ) (back : List ℕ) → All P (front ++ number ∷ back)
    → All P (front ++ back)
number_all_without P front number back all = All-append P front back (number_all_of_front P front (number ∷ back) all)
    (All-tail P number back (number_all_of_back P front (number ∷ back) all))

pub number_all_of_middle : (P : ℕ → Type 0) (front : List ℕ) (number : ℕ) (back : List ℕ) → All P (front ++ number ∷ back)
    → P number
number_all_of_middle P front number back all = All-head P number back (number_all_of_back P front (number ∷ back) all)

-- one comes behind a number in the middle
pub number_all_with : (P : ℕ → Type 0) (front : List ℕ) (number : ℕ) (back : List ℕ) → P number → All P (front ++ back)
    → All P (front ++ number ∷ back)
number_all_with P front number back here all = All-append P front (number ∷ back) (number_all_of_front P front back all)
    (All-cons P number back here (number_all_of_back P front back all))

-- the same, told from the other number
pub number_lacks_back : (front : List ℕ) (number : ℕ) (back : List ℕ) → AreDistinct (front ++ number ∷ back)
    → All (λ other. other ≢ number) back
number_lacks_back [] number back distinct = distinct.0
number_lacks_back (first ∷ front) number back distinct = number_lacks_back front number back distinct.1

pub number_lacks_front : (front : List ℕ) (number : ℕ) (back : List ℕ) → AreDistinct (front ++ number ∷ back)
    → All (λ other. other ≢ number) front
number_lacks_front [] number back distinct = All-nil (λ other. other ≢ number)
number_lacks_front (first ∷ front) number back distinct = All-cons (λ other. other ≢ number) first front
    (λ here. number_all_of_middle (λ other. other ≢ first) front number back distinct.0 (sym here))
    (number_lacks_front front number back distinct.1)

-- no number behind another is before it
pub number_lacks_each : (front : List ℕ) (number : ℕ) (back : List ℕ) → AreDistinct (front ++ number ∷ back)
    → All (λ late. All (λ other. other ≢ late) front) back
number_lacks_each [] number back distinct = λ k d low. All-nil (λ other. other ≢ get_or back k d)
number_lacks_each (first ∷ front) number back distinct = λ k d low.
    All-cons (λ other. other ≢ get_or back k d) first front
    (λ same. All-tail (λ other. other ≢ first) number back
    (number_all_of_back (λ other. other ≢ first) front (number ∷ back) distinct.0)
    k d low (sym same))
    (number_lacks_each front number back distinct.1 k d low)

pub number_distinct_back : (front : List ℕ) (number : ℕ) (back : List ℕ) → AreDistinct (front ++ number ∷ back)
    → AreDistinct back
number_distinct_back [] number back distinct = distinct.1
number_distinct_back (first ∷ front) number back distinct = number_distinct_back front number back distinct.1

pub number_distinct_without : (front : List ℕ) (number : ℕ) (back : List ℕ) → AreDistinct (front ++ number ∷ back)
    → AreDistinct (front ++ back)
number_distinct_without [] number back distinct = distinct.1
number_distinct_without (first ∷ front) number back distinct =
    (number_all_without (λ other. other ≢ first) front number back distinct.0, number_distinct_without front number back distinct.1)

pub number_distinct_with : (front : List ℕ) (number : ℕ) (back : List ℕ) → AreDistinct (front ++ back)
    → All (λ other. other ≢ number) (front ++ back)
    → AreDistinct (front ++ number ∷ back)
number_distinct_with [] number back distinct apart = (apart, distinct)
number_distinct_with (first ∷ front) number back distinct apart = (
  number_all_with (λ other. other ≢ first) front number back
      (λ here. All-head (λ other. other ≢ number) first (front ++ back) apart (sym here)) distinct.0,
  number_distinct_with front number back distinct.1 (All-tail (λ other. other ≢ number) first (front ++ back) apart),
)

number_distinct_in_std : (numbers : List ℕ) → AreDistinct numbers → IsDistinct eqb numbers
unfolding IsDistinct
number_distinct_in_std [] distinct = tt
number_distinct_in_std (number ∷ rest) distinct = (
  recursion_from_All (λ other. eqb number other ≡ false) rest
      (All-weaker (λ other. other ≢ number) (λ other. eqb number other ≡ false)
      (λ other apart. ne_eqb number other (λ here. apart (sym here)))
      rest distinct.0),
  number_distinct_in_std rest distinct.1,
)

number_below_in_std : (room : ℕ) (numbers : List ℕ) → All (λ number. number < room) numbers → (q : ℕ)
    → list_any (eqb q) numbers ≡ true → q < room
number_below_in_std room [] all q found = cc
number_below_in_std room (number ∷ rest) all q found =
    ⊎_elim
    (λ (here : eqb q number ≡ true). (let e : q ≡ number = eqb-true q number here in
    let low : number < room = All-head (λ number. number < room) number rest all in
    let result : q < room = omega arith in result))
    (λ (later : list_any (eqb q) rest ≡ true). number_below_in_std room rest
    (All-tail (λ number. number < room) number rest all) q later)
    (or_cases (eqb q number) (list_any (eqb q) rest) found)

-- distinct numbers below a room are at most as many
pub number_distinct_fit : (room : ℕ) (numbers : List ℕ) → All (λ number. number < room) numbers → AreDistinct numbers
    → length numbers ≤ room
number_distinct_fit room numbers below distinct =
    length-le_from_distinct_below numbers room (number_distinct_in_std numbers distinct) (number_below_in_std room numbers below)

pub ring_of_numbers : (room : ℕ) (numbers : List ℕ) → All (λ number. number < room) numbers → AreDistinct numbers
    → IsRing room numbers
ring_of_numbers room numbers below distinct = record
    { below = below; distinct = distinct; fits = number_distinct_fit room numbers below distinct }

pub number_ring_without : (room : ℕ) (front : List ℕ) (number : ℕ) (back : List ℕ) → IsRing room (front ++ number ∷ back)
    → IsRing room (front ++ back)
number_ring_without room front number back ring = ring_of_numbers room (front ++ back)
    (number_all_without (λ number. number < room) front number back ring.below)
    (number_distinct_without front number back ring.distinct)

pub number_ring_with : (room : ℕ) (front : List ℕ) (number : ℕ) (back : List ℕ) → IsRing room (front ++ back) → number < room
    → All (λ other. other ≢ number) (front ++ back) → IsRing room (front ++ number ∷ back)
number_ring_with room front number back ring low apart = ring_of_numbers room (front ++ number ∷ back)
    (number_all_with (λ number. number < room) front number back low ring.below)
    (number_distinct_with front number back ring.distinct apart)
