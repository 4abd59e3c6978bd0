-- What the cells of a ring lead to, and rings after a number left or came.
use Rattle.std.proofs.Common.{◌≡◌, ◌≢◌, ◌+◌, ◌-◌, ◌<◌, ◌≤◌, ℕ, List, [], ◌∷◌, ◌++◌, get_or, set, refl, sym}
use Rattle.std.proofs.Common.{ap, subst, ◌∙◌, arith}
use Rattle.std.proofs.Common.{Option, None, Some, append_assoc, length-append}
use Rattle.std.specs.List.{All}
use Rattle.std.specs.Option.{IfNone, IfSome, MatchOption}
use Rattle.std.proofs.lemmas.List.{length-set}
use Rattle.std.proofs.lemmas.List.Elements.{All-head, All-tail, All-weaker}
use Rattle.stream_summary.specs.Links.{AreLinked, walked}
use Rattle.stream_summary.specs.Ring.{AreRingLinks, IsFirstOf, IsIn, IsLastOf, IsRing}
use Rattle.stream_summary.proofs.NumberLemmas.{number_all_of_front, number_all_of_back, number_all_of_middle}
use Rattle.stream_summary.proofs.NumberLemmas.{number_all_without}
use Rattle.stream_summary.proofs.NumberLemmas.{number_distinct_without, number_lacks_back, number_lacks_each}
use Rattle.stream_summary.proofs.NumberLemmas.{number_lacks_front}
use Rattle.stream_summary.proofs.NumberLemmas.{number_distinct_back, number_ring_with, number_ring_without}
use Rattle.stream_summary.proofs.LinkLemmas.{link_before_is_one, link_linked_back, link_linked_elsewhere}
use Rattle.stream_summary.proofs.LinkLemmas.{link_linked_from_new}
use Rattle.stream_summary.proofs.LinkLemmas.{link_linked_front, link_linked_through}
use Rattle.stream_summary.proofs.LinkLemmas.{link_linked_without, link_next_is_one, walked_links}

pub walked_ring : (room len : ℕ) (nexts befores order : List ℕ) → AreRingLinks room len nexts befores order
    → walked len nexts room ≡ order
walked_ring room len nexts befores order links =
    let P : ℕ → Type 0 = λ len. walked len nexts room ≡ order in
    subst P links.long (walked_links nexts befores room order room links.linked)

-- The cell that follows a part is a number if the part isn't over
pub ring_first_of_part : {N : Type 0} (value_of : N → ℕ) (found : Option N) (nexts befores : List ℕ) (from : ℕ)
    (part : List ℕ) (room next : ℕ)
    → AreLinked nexts befores from part room → get_or nexts from 0 ≡ next → All (λ number. number < room) part
    → MatchOption found (next ≡ room) (λ number. (value_of number ≡ next) × (next < room))
    → MatchOption found (part ≡ []) (λ number. IsFirstOf (value_of number) part)
ring_first_of_part value_of None nexts befores from [] room next linked is_next below told = refl
ring_first_of_part value_of None nexts befores from (first ∷ rest) room next linked is_next below told =
    absurd (omega (arith, linked.0, All-head (λ number. number < room) first rest below))
ring_first_of_part value_of (Some number) nexts befores from [] room next linked is_next below told = absurd
    (omega (arith, linked.0, told.1))
ring_first_of_part value_of (Some number) nexts befores from (first ∷ rest) room next linked is_next below told =
    (rest, ap (λ number. number ∷ rest) (sym linked.0 ∙ is_next ∙ sym told.0))

-- the cell before the end of a part is its last
ring_last_is : (nexts befores : List ℕ) (from first : ℕ) (rest : List ℕ) (to : ℕ)
    → AreLinked nexts befores from (first ∷ rest) to
    → IsLastOf (get_or befores to 0) (first ∷ rest)
ring_last_is nexts befores from first [] to linked = ([], ap (λ number. number ∷ []) (sym linked.2.1))
ring_last_is nexts befores from first (second ∷ rest) to linked =
    let later = ring_last_is nexts befores first second rest to linked.2 in
    (first ∷ later.0, ap (λ numbers. first ∷ numbers) later.1)

pub ring_last_of_part : {N : Type 0} (value_of : N → ℕ) (found : Option N) (nexts befores : List ℕ) (part : List ℕ)
    (to room before : ℕ)
    → AreLinked nexts befores room part to → get_or befores to 0 ≡ before → All (λ number. number < room) part
    → MatchOption found (before ≡ room) (λ number. (value_of number ≡ before) × (before < room))
    → MatchOption found (part ≡ []) (λ number. IsLastOf (value_of number) part)
ring_last_of_part value_of None nexts befores [] to room before linked is_before below told = refl
ring_last_of_part value_of None nexts befores (first ∷ rest) to room before linked is_before below told =
    let last = ring_last_is nexts befores room first rest to linked in
    let low : get_or befores to 0 < room = number_all_of_middle (λ number. number < room) last.0 (get_or befores to 0) []
    (subst (All (λ number. number < room)) last.1 below) in
    absurd (omega (arith, low, is_before, told))
ring_last_of_part value_of (Some number) nexts befores [] to room before linked is_before below told =
    absurd (omega (arith, linked.1, is_before, told.1))
ring_last_of_part value_of (Some number) nexts befores (first ∷ rest) to room before linked is_before below told =
    let last = ring_last_is nexts befores room first rest to linked in
    (last.0, last.1 ∙ ap (λ number. last.0 ++ number ∷ []) (is_before ∙ sym told.0))

pub ring_next_fits : (room len : ℕ) (nexts befores : List ℕ) (front : List ℕ) (number : ℕ) (back : List ℕ)
    → AreRingLinks room len nexts befores (front ++ number ∷ back) → get_or nexts number 0 ≤ room
ring_next_fits room len nexts befores front number back links =
    let below : All (λ number. number < room) back = All-tail (λ number. number < room) number back
    (number_all_of_back (λ number. number < room) front (number ∷ back) links.ring.below) in
    link_next_is_one (λ cell. cell ≤ room) nexts befores number back room
    (link_linked_back nexts befores room front number back room links.linked)
    (All-weaker (λ number. number < room) (λ cell. cell ≤ room) (λ number low. omega (arith, low)) back below)
    (omega arith)

pub ring_before_fits : (room len : ℕ) (nexts befores : List ℕ) (front : List ℕ) (number : ℕ) (back : List ℕ)
    → AreRingLinks room len nexts befores (front ++ number ∷ back) → get_or befores number 0 ≤ room
ring_before_fits room len nexts befores front number back links =
    let below : All (λ number. number < room) front = number_all_of_front (λ number. number < room) front (number ∷ back)
    links.ring.below in
    link_before_is_one (λ cell. cell ≤ room) nexts befores room front number
    (link_linked_front nexts befores room front number back room links.linked) (omega arith)
    (All-weaker (λ number. number < room) (λ cell. cell ≤ room) (λ number low. omega (arith, low)) front below)

-- of the ends' cell
pub ring_first_fits : (room len : ℕ) (nexts befores order : List ℕ) → AreRingLinks room len nexts befores order
    → get_or nexts room 0 ≤ room
ring_first_fits room len nexts befores order links =
    link_next_is_one (λ cell. cell ≤ room) nexts befores room order room links.linked
    (All-weaker (λ number. number < room) (λ cell. cell ≤ room) (λ number low. omega (arith, low)) order
    links.ring.below) (omega arith)

pub ring_last_fits : (room len : ℕ) (nexts befores order : List ℕ) → AreRingLinks room len nexts befores order
    → get_or befores room 0 ≤ room
ring_last_fits room len nexts befores order links =
    link_before_is_one (λ cell. cell ≤ room) nexts befores room order room links.linked (omega arith)
    (All-weaker (λ number. number < room) (λ cell. cell ≤ room) (λ number low. omega (arith, low)) order
    links.ring.below)

ring_lacks_ends : (room : ℕ) (numbers : List ℕ) → All (λ number. number < room) numbers
    → All (λ number. number ≢ room) numbers
ring_lacks_ends room numbers below = All-weaker (λ number. number < room) (λ number. number ≢ room)
    (λ number low same. omega (arith, low, same)) numbers below

-- a number leaves, and the cells beside it are joined
pub ring_links_without : (room len : ℕ) (nexts befores : List ℕ) (front : List ℕ) (number : ℕ) (back : List ℕ)
    → AreRingLinks room len nexts befores (front ++ number ∷ back)
    → AreRingLinks room (len - 1) (set nexts (get_or befores number 0) (get_or nexts number 0))
    (set befores (get_or nexts number 0) (get_or befores number 0)) (front ++ back)
ring_links_without room len nexts befores front number back links =
    let before = get_or befores number 0 in
    let next = get_or nexts number 0 in
    let low : before ≤ room = ring_before_fits room len nexts befores front number back links in
    let high : next ≤ room = ring_next_fits room len nexts befores front number back links in
    let inner : All (λ number. number ≢ room) (front ++ back) = ring_lacks_ends room (front ++ back)
    (number_all_without (λ number. number < room) front number back links.ring.below) in
    record {
      few = links.few;
      cells_on = length-set nexts before next ∙ links.cells_on;
      cells_back = length-set befores next before ∙ links.cells_back;
      long = omega (arith, links.long, length-append front (number ∷ back), length-append front back);
      ring = number_ring_without room front number back links.ring;
      linked = link_linked_without nexts befores room front number back room before next
          (link_linked_front nexts befores room front number back room links.linked)
          (link_linked_back nexts befores room front number back room links.linked) refl refl
          (omega (arith, low, links.cells_on)) (omega (arith, high, links.cells_back))
          (inner, number_distinct_without front number back links.ring.distinct) inner;
    }

-- a number comes to the front
pub ring_links_with_first : (room len : ℕ) (nexts befores order : List ℕ) (number : ℕ)
    → AreRingLinks room len nexts befores order
    → number < room → All (λ other. other ≢ number) order
    → AreRingLinks room (len + 1) (set (set nexts room number) number (get_or nexts room 0))
    (set (set befores number room) (get_or nexts room 0) number) (number ∷ order)
ring_links_with_first room len nexts befores order number links low apart =
    let next = get_or nexts room 0 in
    let high : next ≤ room = ring_first_fits room len nexts befores order links in
    let inner : All (λ number. number ≢ room) order = ring_lacks_ends room order links.ring.below in
    record {
      few = links.few;
      cells_on = length-set (set nexts room number) number next ∙ length-set nexts room number ∙ links.cells_on;
      cells_back = length-set (set befores number room) next number ∙ length-set befores number room ∙ links.cells_back;
      long = omega (arith, links.long);
      ring = number_ring_with room [] number order links.ring low apart;
      linked =
          let new = link_linked_from_new nexts befores room number order room next links.linked refl
          (omega (arith, links.cells_on)) (omega (arith, low, links.cells_on)) (omega (arith, low, links.cells_back))
          (omega (arith, high, links.cells_back)) (λ same. omega (arith, same, low))
          (λ same. omega (arith, same, low)) apart inner inner
          links.ring.distinct in
          new;
    }

-- a number comes behind another
pub ring_links_with : (room len : ℕ) (nexts befores : List ℕ) (front : List ℕ) (at : ℕ) (back : List ℕ) (number : ℕ)
    → AreRingLinks room len nexts befores (front ++ at ∷ back)
    → number < room → All (λ other. other ≢ number) (front ++ at ∷ back)
    → AreRingLinks room (len + 1) (set (set nexts at number) number (get_or nexts at 0))
    (set (set befores number at) (get_or nexts at 0) number) (front ++ at ∷ number ∷ back)
ring_links_with room len nexts befores front at back number links low apart =
    let next = get_or nexts at 0 in
    let high : next ≤ room = ring_next_fits room len nexts befores front at back links in
    let under : at < room = number_all_of_middle (λ number. number < room) front at back links.ring.below in
    let lacks : All (λ other. other ≢ number) back = All-tail (λ other. other ≢ number) at back
    (number_all_of_back (λ other. other ≢ number) front (at ∷ back) apart) in
    let lacks_before : All (λ other. other ≢ number) front = number_all_of_front (λ other. other ≢ number) front (at ∷ back)
    apart in
    let here : at ≢ number = number_all_of_middle (λ other. other ≢ number) front at back apart in
    let inner : All (λ number. number ≢ room) (front ++ at ∷ back) = ring_lacks_ends room (front ++ at ∷ back)
    links.ring.below in
    let behind : All (λ number. number ≢ room) back = All-tail (λ number. number ≢ room) at back
    (number_all_of_back (λ number. number ≢ room) front (at ∷ back) inner) in
    let after : AreLinked nexts befores at back room = link_linked_back nexts befores room front at back room links.linked in
    let before : AreLinked nexts befores room front at = link_linked_front nexts befores room front at back room
    links.linked in
    let end : room ≢ number = λ same. omega (arith, same, low) in
    let once : AreLinked (set nexts at number) (set befores number at) room front at =
    link_linked_elsewhere nexts befores at number room front at before (λ same. omega (arith, same, under))
    (number_lacks_front front at back links.ring.distinct) lacks_before here in
    let P : ℕ → Type 0 = λ cell. All (λ other. other ≢ cell) front in
    let Q : ℕ → Type 0 = λ cell. at ≢ cell in
    let outside : P next = link_next_is_one P nexts befores at back room after (number_lacks_each front at back links.ring.distinct)
    (number_all_of_front (λ number. number ≢ room) front (at ∷ back) inner) in
    let behind_at : All (λ other. other ≢ at) back = number_lacks_back front at back links.ring.distinct in
    let last : Q next = link_next_is_one Q nexts befores at back room after
    (All-weaker (λ other. other ≢ at) Q (λ other apart same. apart (sym same)) back behind_at)
    (λ same. omega (arith, same, under)) in
    let whole : (rest : List ℕ) → (front ++ at ∷ []) ++ rest ≡ front ++ at ∷ rest = λ rest. append_assoc front
    (at ∷ []) rest in
    record {
      few = links.few;
      cells_on = length-set (set nexts at number) number next ∙ length-set nexts at number ∙ links.cells_on;
      cells_back = length-set (set befores number at) next number ∙ length-set befores number at ∙ links.cells_back;
      long = omega (arith, links.long, length-append front (at ∷ back), length-append front (at ∷ number ∷ back));
      ring = subst (IsRing room) (whole (number ∷ back)) (number_ring_with room (front ++ at ∷ []) number back
          (subst (IsRing room) (sym (whole back)) links.ring) low
          (subst (All (λ other. other ≢ number)) (sym (whole back)) apart));
      linked = link_linked_through (set (set nexts at number) number next) (set (set befores number at) next number) room
          front at (number ∷ back) room
          (link_linked_elsewhere (set nexts at number) (set befores number at) number next room front at once end
          lacks_before outside last)
          (link_linked_from_new nexts befores at number back room next after refl
          (omega (arith, under, links.cells_on)) (omega (arith, low, links.cells_on))
          (omega (arith, low, links.cells_back))
          (omega (arith, high, links.cells_back)) here end lacks behind_at behind
          (number_distinct_back front at back links.ring.distinct));
    }

pub ring_as_walked : (room len : ℕ) (nexts befores order : List ℕ) → AreRingLinks room len nexts befores order
    → AreRingLinks room len nexts befores (walked len nexts room)
ring_as_walked room len nexts befores order links =
    subst (AreRingLinks room len nexts befores) (sym (walked_ring room len nexts befores order links)) links

-- a number comes behind a cell: what is known of the cells before and after
pub record RingInserts (room len : ℕ) (nexts befores order : List ℕ) (cell number : ℕ) (on back : List ℕ) : Type 0 where
  pub links : AreRingLinks room len nexts befores order
  pub low : number < room
  pub apart : All (λ other. other ≢ number) order
  pub on_is : on ≡ set (set nexts cell number) number (get_or nexts cell 0)
  pub back_is : back ≡ set (set befores number cell) (get_or nexts cell 0) number

module _ (room len : ℕ) (nexts befores order : List ℕ) (cell number : ℕ) (on back : List ℕ)
    (inserts : RingInserts room len nexts befores order cell number on back) where
  inserted : (new : List ℕ) → AreRingLinks room (len + 1) (set (set nexts cell number) number (get_or nexts cell 0))
      (set (set befores number cell) (get_or nexts cell 0) number) new → AreRingLinks room (len + 1) on back new
  inserted new links =
      subst (λ on. AreRingLinks room (len + 1) on back new) (sym inserts.on_is)
      (subst (λ back. AreRingLinks room (len + 1) (set (set nexts cell number) number (get_or nexts cell 0)) back new)
      (sym inserts.back_is) links)

  pub inserted_first : cell ≡ room → AreRingLinks room (len + 1) on back (number ∷ order)
  inserted_first ends = inserted (number ∷ order)
      (subst (λ cell. AreRingLinks room (len + 1) (set (set nexts cell number) number (get_or nexts cell 0))
      (set (set befores number cell) (get_or nexts cell 0) number) (number ∷ order)) (sym ends)
      (ring_links_with_first room len nexts befores order number inserts.links inserts.low inserts.apart))

  pub inserted_behind : (front rest : List ℕ) → order ≡ front ++ cell ∷ rest
      → AreRingLinks room (len + 1) on back (front ++ cell ∷ number ∷ rest)
  inserted_behind front rest split = inserted (front ++ cell ∷ number ∷ rest)
      (ring_links_with room len nexts befores front cell rest number
      (subst (AreRingLinks room len nexts befores) split inserts.links) inserts.low
      (subst (All (λ other. other ≢ number)) split inserts.apart))

  -- whatever the cell is
  pub inserted_somewhere : {N : Type 0} (value_of : N → ℕ) (at : Option N) → IfSome at (λ at. IsIn (value_of at) order)
      → MatchOption at (cell ≡ room) (λ at. cell ≡ value_of at)
      → AreRingLinks room (len + 1) on back (walked (len + 1) on room)
  inserted_somewhere value_of None there is_cell =
      ring_as_walked room (len + 1) on back (number ∷ order) (inserted_first is_cell)
  inserted_somewhere value_of (Some at) there is_cell =
      ring_as_walked room (len + 1) on back (there.front ++ cell ∷ number ∷ there.back)
      (inserted_behind there.front there.back
      (there.is ∙ ap (λ at. there.front ++ at ∷ there.back) (sym is_cell)))

  pub inserted_order_first : {N : Type 0} (value_of : N → ℕ) (at : Option N)
      → MatchOption at (cell ≡ room) (λ at. cell ≡ value_of at) → IfNone at (walked (len + 1) on room ≡ number ∷ order)
  inserted_order_first value_of None is_cell = walked_ring room (len + 1) on back (number ∷ order)
      (inserted_first is_cell)
  inserted_order_first value_of (Some at) is_cell = tt

  pub inserted_order : {N : Type 0} (value_of : N → ℕ) (at : Option N)
      → MatchOption at (cell ≡ room) (λ at. cell ≡ value_of at)
      → IfSome at (λ at. (front rest : List ℕ) → order ≡ front ++ value_of at ∷ rest
      → walked (len + 1) on room ≡ front ++ value_of at ∷ number ∷ rest)
  inserted_order value_of None is_cell = tt
  inserted_order value_of (Some at) is_cell = λ front rest split.
      walked_ring room (len + 1) on back (front ++ cell ∷ number ∷ rest)
      (inserted_behind front rest (split ∙ ap (λ at. front ++ at ∷ rest) (sym is_cell)))
      ∙ ap (λ at. front ++ at ∷ number ∷ rest) is_cell

-- a number leaves: what is known of the cells before and after
pub record RingRemoves (room len : ℕ) (nexts befores order : List ℕ) (number : ℕ) (on back : List ℕ) : Type 0 where
  pub links : AreRingLinks room len nexts befores order
  pub on_is : on ≡ set nexts (get_or befores number 0) (get_or nexts number 0)
  pub back_is : back ≡ set befores (get_or nexts number 0) (get_or befores number 0)

pub ring_removed : (room len : ℕ) (nexts befores order : List ℕ) (number : ℕ) (on back front rest : List ℕ)
    → RingRemoves room len nexts befores order number on back → order ≡ front ++ number ∷ rest
    → AreRingLinks room (len - 1) on back (front ++ rest)
ring_removed room len nexts befores order number on back front rest removes split =
    let links = ring_links_without room len nexts befores front number rest
    (subst (AreRingLinks room len nexts befores) split removes.links) in
    subst (λ on. AreRingLinks room (len - 1) on back (front ++ rest)) (sym removes.on_is)
    (subst (λ back. AreRingLinks room (len - 1) (set nexts (get_or befores number 0) (get_or nexts number 0)) back
    (front ++ rest)) (sym removes.back_is) links)

module _ (room len : ℕ) (nexts befores order : List ℕ) (number : ℕ)
    (links : AreRingLinks room len nexts befores order) where
  split_links : (front back : List ℕ) → order ≡ front ++ number ∷ back
      → AreRingLinks room len nexts befores (front ++ number ∷ back)
  split_links front back split = subst (AreRingLinks room len nexts befores) split links

  pub arena_number_is_below : IsIn number order → number < room
  arena_number_is_below there = number_all_of_middle (λ number. number < room) there.front number there.back
      (split_links there.front there.back there.is).ring.below

  pub next_is_a_cell : IsIn number order → get_or nexts number 0 ≤ room
  next_is_a_cell there = ring_next_fits room len nexts befores there.front number there.back
      (split_links there.front there.back there.is)

  pub before_is_a_cell : IsIn number order → get_or befores number 0 ≤ room
  before_is_a_cell there = ring_before_fits room len nexts befores there.front number there.back
      (split_links there.front there.back there.is)

  pub first_behind : {N : Type 0} (value_of : N → ℕ) (found : Option N) (next : ℕ) → get_or nexts number 0 ≡ next
      → MatchOption found (next ≡ room) (λ number. (value_of number ≡ next) × (next < room))
      → (front back : List ℕ) → order ≡ front ++ number ∷ back
      → MatchOption found (back ≡ []) (λ number. IsFirstOf (value_of number) back)
  first_behind value_of found next is_next told front back split =
      let here = split_links front back split in
      ring_first_of_part value_of found nexts befores number back room next
      (link_linked_back nexts befores room front number back room here.linked) is_next
      (All-tail (λ number. number < room) number back
      (number_all_of_back (λ number. number < room) front (number ∷ back) here.ring.below)) told

  pub last_ahead : {N : Type 0} (value_of : N → ℕ) (found : Option N) (before : ℕ) → get_or befores number 0 ≡ before
      → MatchOption found (before ≡ room) (λ number. (value_of number ≡ before) × (before < room))
      → (front back : List ℕ) → order ≡ front ++ number ∷ back
      → MatchOption found (front ≡ []) (λ number. IsLastOf (value_of number) front)
  last_ahead value_of found before is_before told front back split =
      let here = split_links front back split in
      ring_last_of_part value_of found nexts befores front number room before
      (link_linked_front nexts befores room front number back room here.linked) is_before
      (number_all_of_front (λ number. number < room) front (number ∷ back) here.ring.below) told

-- the cell behind which a number comes
pub ring_cell_is_within : {N : Type 0} (value_of : N → ℕ) (at : Option N) (room len : ℕ)
    (nexts befores order : List ℕ) (cell : ℕ)
    → AreRingLinks room len nexts befores order → IfSome at (λ at. IsIn (value_of at) order)
    → MatchOption at (cell ≡ room) (λ at. cell ≡ value_of at) → cell ≤ room
ring_cell_is_within value_of None room len nexts befores order cell links there is_cell = omega (arith, is_cell)
ring_cell_is_within value_of (Some at) room len nexts befores order cell links there is_cell =
    omega (arith, is_cell, arena_number_is_below room len nexts befores order (value_of at) links there)

pub ring_next_of_cell_fits : {N : Type 0} (value_of : N → ℕ) (at : Option N) (room len : ℕ)
    (nexts befores order : List ℕ) (cell : ℕ)
    → AreRingLinks room len nexts befores order → IfSome at (λ at. IsIn (value_of at) order)
    → MatchOption at (cell ≡ room) (λ at. cell ≡ value_of at) → get_or nexts cell 0 ≤ room
ring_next_of_cell_fits value_of None room len nexts befores order cell links there is_cell =
    subst (λ cell. get_or nexts cell 0 ≤ room) (sym is_cell) (ring_first_fits room len nexts befores order links)
ring_next_of_cell_fits value_of (Some at) room len nexts befores order cell links there is_cell =
    subst (λ cell. get_or nexts cell 0 ≤ room) (sym is_cell)
    (next_is_a_cell room len nexts befores order (value_of at) links there)
