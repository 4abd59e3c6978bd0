-- Chains after a place left one.
use Rattle.std.proofs.Common.{◌≡◌, ◌≢◌, ℕ, ◌+◌, ◌<◌, ◌≤◌, List, get_or}
use Rattle.std.proofs.Common.{sym, ap, ◌∙◌, subst, ⊎_elim, arith}
use Rattle.std.proofs.lemmas.Bool.{cases_eq, cases_lt}
use Rattle.key_index.specs.Chains.{AreChains, IsLinked, IsLive}

-- a place leaves its chain: what is known of the chains before, and of the cells and numbers after. `front` leads to it
pub record Leaves (room : ℕ) (links backs : List ℕ) (rank home : ℕ → ℕ) (after ways : List ℕ) (ranked : ℕ → ℕ) (place front : ℕ) : Type 0 where
  pub old : AreChains room links backs rank home
  pub linked : IsLinked backs place
  pub from : get_or backs (place + 1) 0 ≡ front + 1
  pub to_next : get_or after front 0 ≡ get_or links place 0
  pub to_others : (cell : ℕ) → cell ≢ front → get_or after cell 0 ≡ get_or links cell 0
  pub free : get_or ways (place + 1) 0 ≡ 0
  pub from_front : (other : ℕ) → other ≢ place → get_or links place 0 ≡ other + 1 → get_or ways (other + 1) 0 ≡ front + 1
  pub from_others : (other : ℕ) → other ≢ place → get_or links place 0 ≢ other + 1 → get_or ways (other + 1) 0 ≡ get_or backs (other + 1) 0
  pub elsewhere : (cell : ℕ) → home cell ≢ home place → ranked cell ≡ rank cell
  pub below : (cell : ℕ) → rank cell ≤ rank place → ranked cell ≡ rank cell
  pub above : (cell : ℕ) → home cell ≡ home place → rank place < rank cell → ranked cell + 1 ≡ rank cell

module _ (room : ℕ) (links backs : List ℕ) (rank home : ℕ → ℕ) (after ways : List ℕ) (ranked : ℕ → ℕ) (place front : ℕ)
    (leaves : Leaves room links backs rank home after ways ranked place front) where
  leaves_front_leads : IsLive room backs front × (get_or links front 0 ≡ place + 1)
  leaves_front_leads =
      let led = leaves.old.back place leaves.linked in
      let here : led.0 ≡ front = omega (arith, led.2, leaves.from) in
      (subst (IsLive room backs) here led.1, ap (λ n. get_or links n 0) (sym here) ∙ led.3)

  leaves_front : (home place ≡ home front) × (rank place + 1 ≡ rank front)
  leaves_front =
      let led = leaves.old.leads front place leaves_front_leads.0 leaves_front_leads.1 in
      (led.1, led.2)

  leaves_front_apart : front ≢ place
  leaves_front_apart here = omega (arith, leaves_front.1, ap rank here)

  pub leaves_apart : (other : ℕ) → IsLinked ways other → other ≢ place
  leaves_apart other linked here = linked (ap (λ n. get_or ways (n + 1) 0) here ∙ leaves.free)

  pub leaves_linked : (other : ℕ) → IsLinked ways other → IsLinked backs other
  leaves_linked other linked =
      ⊎_elim
      (λ (next : get_or links place 0 ≡ other + 1). (leaves.old.leads place other (λ _. leaves.linked) next).0)
      (λ (same : get_or links place 0 ≡ other + 1 → ⊥). λ (none : get_or backs (other + 1) 0 ≡ 0).
      linked (leaves.from_others other (leaves_apart other linked) same ∙ none))
      (cases_eq (get_or links place 0) (other + 1))

  pub leaves_kept : (other : ℕ) → IsLinked backs other → other ≢ place → IsLinked ways other
  leaves_kept other linked there none =
      ⊎_elim
      (λ (next : get_or links place 0 ≡ other + 1). (let no : ⊥ = omega (arith, leaves.from_front other there next) in no))
      (λ (same : get_or links place 0 ≡ other + 1 → ⊥). linked (sym (leaves.from_others other there same) ∙ none))
      (cases_eq (get_or links place 0) (other + 1))

  -- no other place of this home has this rank
  leaves_alone : (other : ℕ) → IsLinked backs other → other ≢ place → home other ≡ home place → rank other ≢ rank place
  leaves_alone other linked there homes ranks = there (leaves.old.apart other place linked leaves.linked homes ranks)

  leaves_within : (other : ℕ) → IsLinked ways other → other < room
  leaves_within other linked = leaves.old.within other (leaves_linked other linked)

  leaves_homes : (other : ℕ) → IsLinked ways other → room ≤ home other
  leaves_homes other linked = leaves.old.homes other (leaves_linked other linked)

  -- ranks keep their order
  leaves_same_rank : (one other : ℕ) → home one ≡ home place → home other ≡ home place → rank one ≢ rank place → rank other ≢ rank place
      → ranked one ≡ ranked other → rank one ≡ rank other
  leaves_same_rank one other homes also apart too same =
      ⊎_elim
      (λ (high : rank place < rank one). ⊎_elim
      (λ (higher : rank place < rank other). (let e : rank one ≡ rank other = omega
      (arith, leaves.above one homes high, leaves.above other also higher) in e))
      (λ (low : rank other ≤ rank place). (let e : rank one ≡ rank other = omega (arith, leaves.above one homes high, leaves.below other low, too) in e))
      (cases_lt (rank place) (rank other)))
      (λ (low : rank one ≤ rank place). ⊎_elim
      (λ (high : rank place < rank other). (let e : rank one ≡ rank other = omega
      (arith, leaves.below one low, leaves.above other also high, apart) in e))
      (λ (lower : rank other ≤ rank place). (let e : rank one ≡ rank other = omega (arith, leaves.below one low, leaves.below other lower) in e))
      (cases_lt (rank place) (rank other)))
      (cases_lt (rank place) (rank one))

  leaves_apart_still : (one other : ℕ) → IsLinked ways one → IsLinked ways other → home one ≡ home other → ranked one ≡ ranked other → one ≡ other
  leaves_apart_still one other linked also homes ranks =
      let was = leaves_linked one linked in
      let were = leaves_linked other also in
      ⊎_elim
      (λ (here : home one ≡ home place). leaves.old.apart one other was were homes
      (leaves_same_rank one other here (sym homes ∙ here) (leaves_alone one was (leaves_apart one linked) here)
      (leaves_alone other were (leaves_apart other also) (sym homes ∙ here)) ranks))
      (λ (there : home one ≡ home place → ⊥). leaves.old.apart one other was were homes
      (sym (leaves.elsewhere one there) ∙ ranks ∙ leaves.elsewhere other (λ here. there (homes ∙ here))))
      (cases_eq (home one) (home place))

  -- one place or cell is right behind the other
  leaves_steps : (one cell : ℕ) → IsLinked backs one → one ≢ place → home one ≡ home cell → rank one + 1 ≡ rank cell → ranked one + 1 ≡ ranked cell
  leaves_steps one cell was there homes step =
      ⊎_elim
      (λ (here : home one ≡ home place). ⊎_elim
      (λ (high : rank place < rank one). (let e : ranked one + 1 ≡ ranked cell = omega (
        arith,
        leaves.above one here high,
        leaves.above cell (sym homes ∙ here) (let higher : rank place < rank cell = omega arith in higher),
      ) in e))
      (λ (low : rank one ≤ rank place). let apart = leaves_alone one was there here in
      (let e : ranked one + 1 ≡ ranked cell = omega (
        arith,
        leaves.below one low,
        leaves.below cell (let lower : rank cell ≤ rank place = omega (arith, apart) in lower),
      ) in e))
      (cases_lt (rank place) (rank one)))
      (λ (elsewhere : home one ≡ home place → ⊥). (let e : ranked one + 1 ≡ ranked cell = omega (
        arith,
        leaves.elsewhere one elsewhere,
        leaves.elsewhere cell (λ here. elsewhere (homes ∙ here)),
      ) in e))
      (cases_eq (home one) (home place))

  -- and a place below its head stays below it
  leaves_top : (other : ℕ) → IsLinked ways other → ranked other < ranked (home other)
  leaves_top other linked =
      let was = leaves_linked other linked in
      let at_head : home (home other) ≡ home other = leaves.old.heads (home other) (leaves.old.homes other was) in
      let top : rank other < rank (home other) = leaves.old.top other was in
      ⊎_elim
      (λ (here : home other ≡ home place).
      let under : rank place < rank (home other) = subst (λ n. rank place < rank n) (sym here) (leaves.old.top place leaves.linked) in
      let lowered : ranked (home other) + 1 ≡ rank (home other) = leaves.above (home other) (at_head ∙ here) under in
      let apart = leaves_alone other was (leaves_apart other linked) here in
      ⊎_elim
      (λ (high : rank place < rank other). (let e : ranked other < ranked (home other) = omega (arith, leaves.above other here high) in e))
      (λ (low : rank other ≤ rank place). (let e : ranked other < ranked (home other) = omega (arith, leaves.below other low, apart) in e))
      (cases_lt (rank place) (rank other)))
      (λ (there : home other ≡ home place → ⊥). (let e : ranked other < ranked (home other) = omega (
        arith,
        leaves.elsewhere other there,
        leaves.elsewhere (home other) (λ here. there (sym at_head ∙ here)),
      ) in e))
      (cases_eq (home other) (home place))

  -- no rank rises
  leaves_lower : (cell : ℕ) → ranked cell ≤ rank cell
  leaves_lower cell =
      ⊎_elim
      (λ (here : home cell ≡ home place). ⊎_elim
      (λ (high : rank place < rank cell). (let e : ranked cell ≤ rank cell = omega (arith, leaves.above cell here high) in e))
      (λ (low : rank cell ≤ rank place). (let e : ranked cell ≤ rank cell = omega (arith, leaves.below cell low) in e))
      (cases_lt (rank place) (rank cell)))
      (λ (there : home cell ≡ home place → ⊥). (let e : ranked cell ≤ rank cell = omega (arith, leaves.elsewhere cell there) in e))
      (cases_eq (home cell) (home place))

  leaves_bound : (cell : ℕ) → room ≤ cell → ranked cell ≤ 4
  leaves_bound cell high = omega (arith, leaves_lower cell, leaves.old.bound cell high)

  leaves_front_rank : ranked front ≡ rank place
  leaves_front_rank = omega (
    arith,
    leaves_front.1,
    leaves.above front (sym leaves_front.0) (let up : rank place < rank front = omega
        (arith, leaves_front.1) in up),
  )

  leaves_live : (cell : ℕ) → IsLive room ways cell → IsLive room backs cell
  leaves_live cell live low = leaves_linked cell (live low)

  leaves_ends : (cell : ℕ) → IsLive room ways cell → get_or after cell 0 ≡ 0 → ranked cell ≡ 0
  leaves_ends cell live none =
      ⊎_elim
      (λ (here : cell ≡ front). ap ranked here ∙ leaves_front_rank
      ∙ leaves.old.ends place (λ _. leaves.linked) (sym leaves.to_next ∙ ap (λ n. get_or after n 0) (sym here) ∙ none))
      (λ (there : cell ≡ front → ⊥). (let e : ranked cell ≡ 0 = omega (
        arith,
        leaves_lower cell,
        leaves.old.ends cell (leaves_live cell live) (sym (leaves.to_others cell there) ∙ none),
      ) in e))
      (cases_eq cell front)

  -- one cell alone leads to the place
  leaves_one_front : (cell : ℕ) → IsLive room backs cell → get_or links cell 0 ≡ place + 1 → cell ≡ front
  leaves_one_front cell live to =
      let led = leaves.old.leads cell place live to in
      let homes : home cell ≡ home front = sym led.1 ∙ leaves_front.0 in
      let ranks : rank cell ≡ rank front = sym led.2 ∙ leaves_front.1 in
      ⊎_elim
      (λ (low : cell < room). ⊎_elim
      (λ (too : front < room). leaves.old.apart cell front (live low) (leaves_front_leads.0 too) homes ranks)
      (λ (high : room ≤ front). absurd (omega (
        arith,
        ranks,
        subst (λ n. rank cell < rank n) (homes ∙ leaves.old.heads front high)
            (leaves.old.top cell (live low)),
      )))
      (cases_lt front room))
      (λ (high : room ≤ cell). ⊎_elim
      (λ (low : front < room). absurd (omega (
        arith,
        ranks,
        subst (λ n. rank front < rank n) (sym homes ∙ leaves.old.heads cell high)
            (leaves.old.top front (leaves_front_leads.0 low)),
      )))
      (λ (too : room ≤ front). sym (leaves.old.heads cell high) ∙ homes ∙ leaves.old.heads front too)
      (cases_lt front room))
      (cases_lt cell room)

  abbrev LeavesTo : ℕ → ℕ → Type 0
  LeavesTo cell next = IsLinked ways next × (home next ≡ home cell) × (ranked next + 1 ≡ ranked cell)

  leaves_from_front : (next : ℕ) → get_or after front 0 ≡ next + 1 → LeavesTo front next
  leaves_from_front next to =
      let led = leaves.old.leads place next (λ _. leaves.linked) (sym leaves.to_next ∙ to) in
      let there : next ≢ place = λ here. omega (arith, led.2, ap rank here) in (
        leaves_kept next led.0 there,
        led.1 ∙ leaves_front.0,
        omega (arith, leaves_front_rank, led.2, leaves.below next (let low : rank next ≤ rank place = omega (arith, led.2) in low)),
      )

  leaves_leads : (cell next : ℕ) → IsLive room ways cell → get_or after cell 0 ≡ next + 1 → LeavesTo cell next
  leaves_leads cell next live to =
      ⊎_elim
      (λ (here : cell ≡ front). subst (λ n. LeavesTo n next) (sym here) (leaves_from_front next (ap (λ n. get_or after n 0) (sym here) ∙ to)))
      (λ (there : cell ≡ front → ⊥).
      let was : get_or links cell 0 ≡ next + 1 = sym (leaves.to_others cell there) ∙ to in
      let led = leaves.old.leads cell next (leaves_live cell live) was in
      let apart : next ≢ place = λ here. there (leaves_one_front cell (leaves_live cell live) (was ∙ ap (λ n. n + 1) here)) in
      (leaves_kept next led.0 apart, led.1, leaves_steps next cell led.0 apart led.1 led.2))
      (cases_eq cell front)

  abbrev LeavesBack : ℕ → Type 0
  LeavesBack other = (cell : ℕ) × IsLive room ways cell × (get_or ways (other + 1) 0 ≡ cell + 1) × (get_or after cell 0 ≡ other + 1)

  leaves_back : (other : ℕ) → IsLinked ways other → LeavesBack other
  leaves_back other linked =
      let was = leaves_linked other linked in
      let there = leaves_apart other linked in
      ⊎_elim
      (λ (next : get_or links place 0 ≡ other + 1).
      (front, (λ low. leaves_kept front (leaves_front_leads.0 low) leaves_front_apart), leaves.from_front other there next, leaves.to_next ∙ next))
      (λ (apart : get_or links place 0 ≡ other + 1 → ⊥).
      let led = leaves.old.back other was in
      let past_front : led.0 ≢ front = λ here. there (let e : other ≡ place = omega (
        arith,
        led.3,
        leaves_front_leads.1,
        ap
            (λ n. get_or links n 0) here,
      ) in e) in
      let past_place : led.0 ≢ place = λ here. apart (ap (λ n. get_or links n 0) (sym here) ∙ led.3) in
      (led.0, (λ low. leaves_kept led.0 (led.1 low) past_place), leaves.from_others other there apart ∙ led.2, leaves.to_others led.0 past_front ∙ led.3))
      (cases_eq (get_or links place 0) (other + 1))

  pub chains_after_leave : AreChains room after ways ranked home
  chains_after_leave = record {
    heads = leaves.old.heads;
    within = leaves_within;
    homes = leaves_homes;
    apart = leaves_apart_still;
    top = leaves_top;
    bound = leaves_bound;
    ends = leaves_ends;
    leads = leaves_leads;
    back = leaves_back;
  }
