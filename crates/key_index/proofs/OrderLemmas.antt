-- Places in the order of their keys: halving, an insert, and a removal.
use Rattle.std.proofs.Common.{◌≡◌, ◌≢◌, ℕ, ◌+◌, ◌-◌, ◌^◌, ◌<◌, ◌≤◌, ◌⊎◌, List, length, get_or}
use Rattle.std.proofs.Common.{refl, sym, ap, ◌∙◌, subst, ⊎_elim, arith}
use Rattle.std.specs.List.{All, insert, remove}
use Rattle.std.proofs.lemmas.Bool.{cases_eq, cases_lt}
use Rattle.std.proofs.lemmas.List.Edits.{length-insert, length-remove, get_or-insert_at, get_or-insert_below}
use Rattle.std.proofs.lemmas.List.Edits.{get_or-insert_above}
use Rattle.std.proofs.lemmas.List.Edits.{get_or-remove_below, get_or-remove_above}
use Rattle.std.proofs.lemmas.Grind.{get_or_default_zero}
use Rattle.key_index.specs.SortedPlaces.{standing, Rises, IsListed, Splits, HasMore, HasLess}

-- where the place at an index of the list stands in the order
abbrev pub order_at : List ℕ → List ℕ → ℕ → ℕ
order_at keys listed index = standing (get_or keys (get_or listed index 0) 0) (get_or listed index 0)

-- a look at the place at the end of a window's first half says whether the window goes on before or behind it
abbrev pub OrderLook : List ℕ → List ℕ → ℕ → ℕ → ℕ → ℕ → Type 0
OrderLook keys listed number from half next =
    ((next ≡ from) × (number ≤ order_at keys listed (from + half - 1))) ⊎ ((next ≡ from + half) × (order_at keys listed (from + half - 1) < number))

pub order_before_half : (keys listed : List ℕ) (number from half next : ℕ) → Rises keys listed → 1 ≤ half → from + half ≤ length listed
    → OrderLook keys listed number from half next → ((index : ℕ) → index < from → order_at keys listed index < number)
    → (index : ℕ) → index < next → order_at keys listed index < number
order_before_half keys listed number from half next rises some within look before index low =
    ⊎_elim
    (λ (stays : (next ≡ from) × (number ≤ order_at keys listed (from + half - 1))). before index (omega (arith, stays.0)))
    (λ (goes : (next ≡ from + half) × (order_at keys listed (from + half - 1) < number)).
    ⊎_elim
    (λ (here : index ≡ from + half - 1). subst (λ n. order_at keys listed n < number) (sym here) goes.1)
    (λ (there : index ≡ from + half - 1 → ⊥).
    let apart : index < from + half - 1 = omega (arith, goes.0) in
    omega (arith, goes.1, rises index (from + half - 1) apart (omega arith)))
    (cases_eq index (from + half - 1)))
    look

pub order_after_half : (keys listed : List ℕ) (number from half rest next : ℕ) → Rises keys listed → 1 ≤ half → half ≤ rest + 1
    → OrderLook keys listed number from half next
    → ((index : ℕ) → from + (half + rest) ≤ index → index < length listed → number ≤ order_at keys listed index)
    → (index : ℕ) → next + rest ≤ index → index < length listed → number ≤ order_at keys listed index
order_after_half keys listed number from half rest next rises some short look after index high within =
    ⊎_elim
    (λ (stays : (next ≡ from) × (number ≤ order_at keys listed (from + half - 1))).
    ⊎_elim
    (λ (here : index ≡ from + half - 1). subst (λ n. number ≤ order_at keys listed n) (sym here) stays.1)
    (λ (there : index ≡ from + half - 1 → ⊥).
    let apart : from + half - 1 < index = omega (arith, stays.0) in
    omega (arith, stays.1, rises (from + half - 1) index apart within))
    (cases_eq index (from + half - 1)))
    (λ (goes : (next ≡ from + half) × (order_at keys listed (from + half - 1) < number)). after index (omega (arith, goes.0)) within)
    look

-- an index splits the list if the places at both sides of it stand where they should
pub order_splits_at : (keys listed : List ℕ) (number at : ℕ) → Rises keys listed → at ≤ length listed
    → (1 ≤ at → order_at keys listed (at - 1) < number) → (at < length listed → number ≤ order_at keys listed at)
    → Splits keys listed number at
order_splits_at keys listed number at rises within low high = record {
  before = λ index before.
      ⊎_elim
      (λ (here : index ≡ at - 1). subst (λ n. order_at keys listed n < number) (sym here) (low (omega arith)))
      (λ (there : index ≡ at - 1 → ⊥). omega (arith, low (omega arith), rises index (at - 1) (omega arith) (omega arith)))
      (cases_eq index (at - 1));
  after = λ index after inside.
      ⊎_elim
      (λ (here : index ≡ at). subst (λ n. number ≤ order_at keys listed n) (sym here) (high (omega arith)))
      (λ (there : index ≡ at → ⊥). omega (arith, high (omega arith), rises at index (omega arith) inside))
      (cases_eq index at);
}

-- a place stands where its key does, and nothing else there
order_tells : (one other key same : ℕ) → one < 2 ^ 16 → other < 2 ^ 16 → standing key one ≡ standing same other → one ≡ other
order_tells one other key same low too is = omega arith

-- what is known of a list below a limit
pub order_below : (listed : List ℕ) (count : ℕ) → All (λ place. place < count) listed → (place : ℕ) → IsListed listed place → place < count
order_below listed count below place is = subst (λ n. n < count) is.2 (below is.0 0 is.1)

pub order_all_below : (listed : List ℕ) (count : ℕ) → ((place : ℕ) → IsListed listed place → place < count) → All (λ place. place < count) listed
order_all_below listed count below index default within =
    subst (λ n. n < count) (sym (get_or_default_zero listed index default within)) (below (get_or listed index 0) (index, within, refl))

-- a search for a key among places in order
pub order_finds_none : (keys listed : List ℕ) (key at place : ℕ) → Rises keys listed → Splits keys listed (standing key 0) at
    → All (λ place. place < 2 ^ 16) listed → IsListed listed place → get_or keys place 0 ≡ key → (at < length listed)
    × (get_or keys (get_or listed at 0) 0 ≡ key)
order_finds_none keys listed key at place rises splits below is same =
    let low : place < 2 ^ 16 = order_below listed (2 ^ 16) below place is in
    let stands : order_at keys listed is.0 ≡ standing key place = ap (λ n. standing (get_or keys n 0) n) is.2 ∙ ap (λ n. standing n place) same in
    ⊎_elim
    (λ (before : is.0 < at). absurd (omega (arith, splits.before is.0 before)))
    (λ (after : at ≤ is.0).
    let within : at < length listed = omega (arith, is.1) in
    let first : standing key 0 ≤ order_at keys listed at = splits.after at (omega arith) within in
    let small : get_or listed at 0 < 2 ^ 16 = below at 0 within in
    ⊎_elim
    (λ (here : at ≡ is.0). (
      within,
      (let e : get_or keys (get_or listed at 0) 0 ≡ key = ap (λ n. get_or keys (get_or listed n 0) 0) here ∙ ap
          (λ n. get_or keys n 0) is.2 ∙ same in e),
    ))
    (λ (there : at ≡ is.0 → ⊥).
    let under : order_at keys listed at < order_at keys listed is.0 = rises at is.0 (omega arith) is.1 in
    (within, omega (arith, under, first, small, stands, low)))
    (cases_eq at is.0))
    (cases_lt is.0 at)

module _ (keys old : List ℕ) (place at : ℕ) (within : at ≤ length old) where
  abbrev Inserted : List ℕ
  Inserted = insert old at place

  order_insert_kept : (other : ℕ) → IsListed old other → IsListed Inserted other
  order_insert_kept other is =
      let long = length-insert old at place within in
      ⊎_elim
      (λ (before : is.0 < at). (is.0, omega (arith, is.1, long), get_or-insert_below old at place 0 is.0 before within ∙ is.2))
      (λ (after : at ≤ is.0). (is.0 + 1, omega (arith, is.1, long), get_or-insert_above old at place 0 is.0 after within ∙ is.2))
      (cases_lt is.0 at)

  order_insert_only : (other : ℕ) → IsListed Inserted other → other ≢ place → IsListed old other
  order_insert_only other is apart =
      let long = length-insert old at place within in
      ⊎_elim
      (λ (before : is.0 < at). (is.0, omega (arith, is.1, long), sym (get_or-insert_below old at place 0 is.0 before within) ∙ is.2))
      (λ (after : at ≤ is.0). ⊎_elim
      (λ (here : is.0 ≡ at). absurd (apart (sym is.2 ∙ ap (λ n. get_or Inserted n 0) here ∙ get_or-insert_at old at place 0 within)))
      (λ (there : is.0 ≡ at → ⊥).
      let index : is.0 - 1 + 1 ≡ is.0 = omega arith in (
        is.0 - 1,
        omega (arith, is.1, long),
        sym (get_or-insert_above old at place 0 (is.0 - 1) (omega arith) within) ∙ ap (λ n. get_or Inserted n 0) index ∙ is.2,
      ))
      (cases_eq is.0 at))
      (cases_lt is.0 at)

  -- where the places of the longer list stand
  order_insert_before : (index : ℕ) → index < at → order_at keys Inserted index ≡ order_at keys old index
  order_insert_before index low = ap (λ n. standing (get_or keys n 0) n) (get_or-insert_below old at place 0 index low within)

  order_insert_here : (index : ℕ) → index ≡ at → order_at keys Inserted index ≡ standing (get_or keys place 0) place
  order_insert_here index here = ap (λ n. standing (get_or keys n 0) n) (ap (λ n. get_or Inserted n 0) here ∙ get_or-insert_at old at place 0 within)

  order_insert_after : (index : ℕ) → at < index → order_at keys Inserted index ≡ order_at keys old (index - 1)
  order_insert_after index high =
      let back : index ≡ index - 1 + 1 = omega arith in
      ap (λ n. standing (get_or keys n 0) n) (ap (λ n. get_or Inserted n 0) back ∙ get_or-insert_above old at place 0 (index - 1) (omega arith) within)

  order_insert_rises : Rises keys old → (IsListed old place → ⊥) → Splits keys old (standing (get_or keys place 0) place) at
      → All (λ place. place < 2 ^ 16) old → place < 2 ^ 16 → Rises keys Inserted
  order_insert_rises rises new splits below low one other apart last =
      let long = length-insert old at place within in
      let past : (index : ℕ) → at ≤ index → index < length old → standing (get_or keys place 0) place < order_at keys old index = λ index after inside.
      let same : order_at keys old index ≢ standing (get_or keys place 0) place =
      λ is. new (
        index,
        inside,
        order_tells (get_or old index 0) place (get_or keys (get_or old index 0) 0) (get_or keys place 0)
            (below index 0 inside) low is,
      ) in
      omega (arith, splits.after index after inside) in
      ⊎_elim
      (λ (before : other < at). omega (arith, order_insert_before one (omega arith), order_insert_before other before, rises one other apart (omega arith)))
      (λ (not_before : at ≤ other). ⊎_elim
      (λ (here : other ≡ at). omega (arith, order_insert_before one (omega arith), order_insert_here other here, splits.before one (omega arith)))
      (λ (behind : other ≡ at → ⊥).
      let after : at < other = omega arith in
      ⊎_elim
      (λ (ahead : one < at). omega (
        arith,
        order_insert_before one ahead,
        order_insert_after other after,
        splits.before one ahead,
        past (other - 1) (omega arith) (omega (arith, long)),
      ))
      (λ (not_ahead : at ≤ one). ⊎_elim
      (λ (here : one ≡ at). omega (
        arith,
        order_insert_here one here,
        order_insert_after other after,
        past (other - 1) (omega arith)
            (omega (arith, long)),
      ))
      (λ (too : one ≡ at → ⊥). omega (
        arith,
        order_insert_after one (omega arith),
        order_insert_after other after,
        rises (one - 1) (other - 1) (omega arith) (omega (arith, long)),
      ))
      (cases_eq one at))
      (cases_lt one at))
      (cases_eq other at))
      (cases_lt other at)

  pub order_after_insert : (Rises keys old → Splits keys old (standing (get_or keys place 0) place) at)
      → All (λ place. place < 2 ^ 16) old → place < 2 ^ 16 → HasMore keys old Inserted place
  order_after_insert splits below low = record {
    added = (at, omega (arith, length-insert old at place within), get_or-insert_at old at place 0 within);
    kept = order_insert_kept;
    only = order_insert_only;
    rises = λ rises new. order_insert_rises rises new (splits rises) below low;
  }

module _ (keys old : List ℕ) (place at : ℕ) (rises : Rises keys old) (within : at < length old) (is : get_or old at 0 ≡ place) where
  abbrev Removed : List ℕ
  Removed = remove old at

  -- the place stands there alone
  order_once : (index : ℕ) → index < length old → get_or old index 0 ≡ place → index ≡ at
  order_once index inside same =
      let stands : order_at keys old index ≡ order_at keys old at = ap (λ n. standing (get_or keys n 0) n) (same ∙ sym is) in
      ⊎_elim
      (λ (before : index < at). absurd (omega (arith, stands, rises index at before within)))
      (λ (after : at ≤ index). ⊎_elim
      (λ (behind : at < index). absurd (omega (arith, stands, rises at index behind inside)))
      (λ (here : index ≤ at). (let e : index ≡ at = omega arith in e))
      (cases_lt at index))
      (cases_lt index at)

  order_remove_kept : (other : ℕ) → IsListed old other → other ≢ place → IsListed Removed other
  order_remove_kept other was apart =
      let short = length-remove old at within in
      ⊎_elim
      (λ (before : was.0 < at). (was.0, omega (arith, was.1, short), get_or-remove_below old at 0 was.0 before within ∙ was.2))
      (λ (after : at ≤ was.0). ⊎_elim
      (λ (here : was.0 ≡ at). absurd (apart (sym was.2 ∙ ap (λ n. get_or old n 0) here ∙ is)))
      (λ (there : was.0 ≡ at → ⊥).
      let index : was.0 - 1 + 1 ≡ was.0 = omega arith in (
        was.0 - 1,
        omega (arith, was.1, short),
        get_or-remove_above old at 0 (was.0 - 1) (omega arith) within ∙ ap (λ n. get_or old n 0) index ∙ was.2,
      ))
      (cases_eq was.0 at))
      (cases_lt was.0 at)

  -- where it stood before
  order_remove_was : (index : ℕ) → index < length Removed → (was : ℕ) × (was < length old) × (was ≢ at) × (get_or Removed index 0 ≡ get_or old was 0)
  order_remove_was index inside =
      let short = length-remove old at within in
      ⊎_elim
      (λ (before : index < at). (index, omega arith, (λ here. omega arith), get_or-remove_below old at 0 index before within))
      (λ (after : at ≤ index). (index + 1, omega (arith, short), (λ here. omega arith), get_or-remove_above old at 0 index after within))
      (cases_lt index at)

  order_remove_only : (other : ℕ) → IsListed Removed other → IsListed old other
  order_remove_only other still = let was = order_remove_was still.0 still.1 in (was.0, was.1, sym was.3 ∙ still.2)

  order_remove_gone : IsListed Removed place → ⊥
  order_remove_gone still = let was = order_remove_was still.0 still.1 in was.2 (order_once was.0 was.1 (sym was.3 ∙ still.2))

  order_remove_before : (index : ℕ) → index < at → order_at keys Removed index ≡ order_at keys old index
  order_remove_before index low = ap (λ n. standing (get_or keys n 0) n) (get_or-remove_below old at 0 index low within)

  order_remove_after : (index : ℕ) → at ≤ index → order_at keys Removed index ≡ order_at keys old (index + 1)
  order_remove_after index high = ap (λ n. standing (get_or keys n 0) n) (get_or-remove_above old at 0 index high within)

  order_remove_rises : Rises keys Removed
  order_remove_rises one other apart last =
      let short = length-remove old at within in
      ⊎_elim
      (λ (before : other < at). omega (arith, order_remove_before one (omega arith), order_remove_before other before, rises one other apart (omega arith)))
      (λ (after : at ≤ other). ⊎_elim
      (λ (ahead : one < at). omega (
        arith,
        order_remove_before one ahead,
        order_remove_after other after,
        rises one (other + 1) (omega arith)
            (omega (arith, short)),
      ))
      (λ (too : at ≤ one). omega (
        arith,
        order_remove_after one too,
        order_remove_after other after,
        rises (one + 1) (other + 1) (omega arith)
            (omega (arith, short)),
      ))
      (cases_lt one at))
      (cases_lt other at)

  pub order_after_remove : HasLess keys old Removed place
  order_after_remove = record { gone = order_remove_gone; kept = order_remove_kept; only = order_remove_only; rises = order_remove_rises }

-- a place of the list is where a search for it ends
pub order_leads_to_place : (keys listed : List ℕ) (place at : ℕ) → Rises keys listed → IsListed listed place
    → Splits keys listed (standing (get_or keys place 0) place) at → All (λ place. place < 2 ^ 16) listed
    → (at < length listed) × (get_or listed at 0 ≡ place)
order_leads_to_place keys listed place at rises is splits below =
    let stands : order_at keys listed is.0 ≡ standing (get_or keys place 0) place = ap (λ n. standing (get_or keys n 0) n) is.2 in
    ⊎_elim
    (λ (before : is.0 < at). absurd (omega (arith, stands, splits.before is.0 before)))
    (λ (after : at ≤ is.0). ⊎_elim
    (λ (behind : at < is.0). absurd (omega (arith, stands, rises at is.0 behind is.1, splits.after at (omega arith) (omega (arith, is.1)))))
    (λ (here : is.0 ≤ at). let e : at ≡ is.0 = omega arith in (omega (arith, is.1), ap (λ n. get_or listed n 0) e ∙ is.2))
    (cases_lt at is.0))
    (cases_lt is.0 at)

-- the longer and the shorter list stay below a limit
pub order_all_below_more : (listed : List ℕ) (place at count : ℕ) → at ≤ length listed → All (λ place. place < count) listed → place < count
    → All (λ place. place < count) (insert listed at place)
order_all_below_more listed place at count within below low = order_all_below (insert listed at place) count
    (λ other is. ⊎_elim (λ (here : other ≡ place). (let e : other < count = omega arith in e))
    (λ (there : other ≡ place → ⊥). order_below listed count below other (order_insert_only listed listed place at within other is there))
    (cases_eq other place))

pub order_all_below_less : (listed : List ℕ) (at count : ℕ) → at < length listed → All (λ place. place < count) listed
    → All (λ place. place < count) (remove listed at)
order_all_below_less listed at count within below index default inside =
    let short = length-remove listed at within in
    ⊎_elim
    (λ (before : index < at). subst (λ n. n < count) (sym (get_or-remove_below listed at default index before within)) (below index default (omega arith)))
    (λ (after : at ≤ index). subst (λ n. n < count) (sym (get_or-remove_above listed at default index after within)) (below (index + 1) default (omega
    (arith, short))))
    (cases_lt index at)
