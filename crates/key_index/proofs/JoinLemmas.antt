-- Chains after a place joined one at its front.
use Rattle.std.proofs.Common.{◌≡◌, ◌≢◌, ℕ, ◌+◌, ◌<◌, ◌≤◌, List, get_or}
use Rattle.std.proofs.Common.{sym, ap, ◌∙◌, subst, ⊎_elim, arith}
use Rattle.std.proofs.lemmas.Bool.{cases_eq}
use Rattle.key_index.specs.Chains.{AreChains, IsLinked, IsLive}

-- a place joins the chain of a home at its front: what is known of the chains before, and of the cells and numbers after
pub record Joins (room : ℕ) (links backs : List ℕ) (rank home : ℕ → ℕ) (after ways : List ℕ) (ranked homed : ℕ → ℕ) (place head : ℕ) : Type 0 where
  pub old : AreChains room links backs rank home
  pub within : place < room
  pub behind : room ≤ head
  pub few : rank head < 4
  pub free : get_or backs (place + 1) 0 ≡ 0
  pub to_next : get_or after place 0 ≡ get_or links head 0
  pub to_place : get_or after head 0 ≡ place + 1
  pub to_others : (cell : ℕ) → cell ≢ place → cell ≢ head → get_or after cell 0 ≡ get_or links cell 0
  pub from_head : get_or ways (place + 1) 0 ≡ head + 1
  pub from_place : (other : ℕ) → get_or links head 0 ≡ other + 1 → get_or ways (other + 1) 0 ≡ place + 1
  pub from_others : (other : ℕ) → other ≢ place → get_or links head 0 ≢ other + 1 → get_or ways (other + 1) 0 ≡ get_or backs (other + 1) 0
  pub head_rank : ranked head ≡ rank head + 1
  pub place_rank : ranked place ≡ rank head
  pub other_rank : (cell : ℕ) → cell ≢ place → cell ≢ head → ranked cell ≡ rank cell
  pub place_home : homed place ≡ head
  pub other_home : (cell : ℕ) → cell ≢ place → homed cell ≡ home cell

-- whether a number is one of three
joins_three_ways : {P : Type 0} (one two cell : ℕ) → (cell ≡ one → P) → (cell ≡ two → P) → (cell ≢ one → cell ≢ two → P) → P
joins_three_ways one two cell first second third =
    ⊎_elim first (λ (other : cell ≡ one → ⊥). ⊎_elim second (λ (another : cell ≡ two → ⊥). third other another) (cases_eq cell two)) (cases_eq cell one)

module _ (room : ℕ) (links backs : List ℕ) (rank home : ℕ → ℕ) (after ways : List ℕ) (ranked homed : ℕ → ℕ) (place head : ℕ)
    (joins : Joins room links backs rank home after ways ranked homed place head) where
  -- a place in a chain after is the new one, or was in it before
  pub joins_linked : (other : ℕ) → IsLinked ways other → other ≢ place → IsLinked backs other
  joins_linked other linked apart =
      ⊎_elim
      (λ (next : get_or links head 0 ≡ other + 1). (joins.old.leads head other (λ low. absurd (omega arith)) next).0)
      (λ (same : get_or links head 0 ≡ other + 1 → ⊥). λ (none : get_or backs (other + 1) 0 ≡ 0). linked (joins.from_others other apart same ∙ none))
      (cases_eq (get_or links head 0) (other + 1))

  -- and what was in a chain still is
  pub joins_kept : (other : ℕ) → IsLinked backs other → IsLinked ways other
  joins_kept other linked none =
      ⊎_elim
      (λ (next : get_or links head 0 ≡ other + 1). (let no : ⊥ = omega (arith, joins.from_place other next) in no))
      (λ (same : get_or links head 0 ≡ other + 1 → ⊥). linked (sym (joins.from_others other (λ here. linked (ap (λ n. get_or backs (n + 1) 0) here
      ∙ joins.free)) same) ∙ none))
      (cases_eq (get_or links head 0) (other + 1))

  joins_apart_from : (other : ℕ) → IsLinked backs other → other ≢ place
  joins_apart_from other linked here = linked (ap (λ n. get_or backs (n + 1) 0) here ∙ joins.free)

  joins_below_head : (other : ℕ) → IsLinked backs other → other ≢ head
  joins_below_head other linked here = omega (arith, joins.old.within other linked)

  joins_rank : (other : ℕ) → IsLinked backs other → ranked other ≡ rank other
  joins_rank other linked = joins.other_rank other (joins_apart_from other linked) (joins_below_head other linked)

  joins_home : (other : ℕ) → IsLinked backs other → homed other ≡ home other
  joins_home other linked = joins.other_home other (joins_apart_from other linked)

  joins_heads : (cell : ℕ) → room ≤ cell → homed cell ≡ cell
  joins_heads cell high = joins.other_home cell (λ here. omega arith) ∙ joins.old.heads cell high

  joins_within : (other : ℕ) → IsLinked ways other → other < room
  joins_within other linked =
      ⊎_elim
      (λ (here : other ≡ place). (let low : other < room = omega arith in low))
      (λ (there : other ≡ place → ⊥). joins.old.within other (joins_linked other linked there))
      (cases_eq other place)

  joins_homes : (other : ℕ) → IsLinked ways other → room ≤ homed other
  joins_homes other linked =
      ⊎_elim
      (λ (here : other ≡ place). subst (λ n. room ≤ homed n) (sym here) (let high : room ≤ homed place = omega arith in high))
      (λ (there : other ≡ place → ⊥). let was = joins_linked other linked there in
      (let high : room ≤ homed other = omega (arith, joins_home other was, joins.old.homes other was) in high))
      (cases_eq other place)

  -- no place had the rank of the new one
  joins_alone : (other : ℕ) → IsLinked backs other → homed other ≡ homed place → ranked other ≡ ranked place → ⊥
  joins_alone other was homes ranks =
      let at_head : home other ≡ head = sym (joins_home other was) ∙ homes ∙ joins.place_home in
      let lower : rank other < rank head = subst (λ n. rank other < rank n) at_head (joins.old.top other was) in
      omega (arith, joins_rank other was)

  joins_apart : (one other : ℕ) → IsLinked ways one → IsLinked ways other → homed one ≡ homed other → ranked one ≡ ranked other → one ≡ other
  joins_apart one other linked also homes ranks =
      ⊎_elim
      (λ (here : one ≡ place). ⊎_elim
      (λ (too : other ≡ place). here ∙ sym too)
      (λ (there : other ≡ place → ⊥). absurd (joins_alone other (joins_linked other also there) (sym homes ∙ ap homed here) (sym ranks ∙ ap ranked here)))
      (cases_eq other place))
      (λ (there : one ≡ place → ⊥). ⊎_elim
      (λ (here : other ≡ place). absurd (joins_alone one (joins_linked one linked there) (homes ∙ ap homed here) (ranks ∙ ap ranked here)))
      (λ (too : other ≡ place → ⊥).
      let was = joins_linked one linked there in
      let were = joins_linked other also too in
      joins.old.apart one other was were (sym (joins_home one was) ∙ homes ∙ joins_home other were) (sym (joins_rank one was) ∙ ranks
      ∙ joins_rank other were))
      (cases_eq other place))
      (cases_eq one place)

  -- a head's rank doesn't fall
  joins_head_rank : (cell : ℕ) → room ≤ cell → rank cell ≤ ranked cell
  joins_head_rank cell high =
      ⊎_elim
      (λ (here : cell ≡ head). subst (λ n. rank n ≤ ranked n) (sym here) (let up : rank head ≤ ranked head = omega arith in up))
      (λ (there : cell ≡ head → ⊥). (let same : rank cell ≤ ranked cell = omega (arith, joins.other_rank cell (λ here. omega arith) there) in same))
      (cases_eq cell head)

  joins_top : (other : ℕ) → IsLinked ways other → ranked other < ranked (homed other)
  joins_top other linked =
      ⊎_elim
      (λ (here : other ≡ place). subst (λ n. ranked n < ranked (homed n)) (sym here)
      (subst (λ n. ranked place < ranked n) (sym joins.place_home) (let up : ranked place < ranked head = omega arith in up)))
      (λ (there : other ≡ place → ⊥). let was = joins_linked other linked there in
      subst (λ n. ranked other < ranked n) (sym (joins_home other was))
      (let up : ranked other < ranked (home other) = omega (
        arith,
        joins_rank other was,
        joins.old.top other was,
        joins_head_rank (home other) (joins.old.homes other was),
      ) in up))
      (cases_eq other place)

  joins_bound : (cell : ℕ) → room ≤ cell → ranked cell ≤ 4
  joins_bound cell high =
      ⊎_elim
      (λ (here : cell ≡ head). subst (λ n. ranked n ≤ 4) (sym here) (let up : ranked head ≤ 4 = omega arith in up))
      (λ (there : cell ≡ head → ⊥). (let same : ranked cell ≤ 4 = omega (
        arith,
        joins.old.bound cell high,
        joins.other_rank cell
            (λ here. omega arith) there,
      ) in same))
      (cases_eq cell head)

  joins_live : (cell : ℕ) → IsLive room ways cell → cell ≢ place → IsLive room backs cell
  joins_live cell live there low = joins_linked cell (live low) there

  joins_ends : (cell : ℕ) → IsLive room ways cell → get_or after cell 0 ≡ 0 → ranked cell ≡ 0
  joins_ends cell live none =
      joins_three_ways place head cell
      (λ (here : cell ≡ place). ap ranked here ∙ joins.place_rank
      ∙ joins.old.ends head (λ low. absurd (omega arith)) (sym joins.to_next ∙ ap (λ n. get_or after n 0) (sym here) ∙ none))
      (λ (here : cell ≡ head). absurd (omega (arith, sym joins.to_place ∙ ap (λ n. get_or after n 0) (sym here) ∙ none)))
      (λ there too. joins.other_rank cell there too ∙ joins.old.ends cell (joins_live cell live there) (sym (joins.to_others cell there too) ∙ none))

  -- what a cell leads to
  abbrev JoinsTo : ℕ → ℕ → Type 0
  JoinsTo cell next = IsLinked ways next × (homed next ≡ homed cell) × (ranked next + 1 ≡ ranked cell)

  joins_from_place : (next : ℕ) → get_or after place 0 ≡ next + 1 → JoinsTo place next
  joins_from_place next to =
      let led = joins.old.leads head next (λ low. absurd (omega arith)) (sym joins.to_next ∙ to) in (
        joins_kept next led.0,
        joins_home next led.0 ∙ led.1 ∙ joins.old.heads head joins.behind ∙ sym joins.place_home,
        omega (arith, joins_rank next led.0, led.2),
      )

  joins_from_head : (next : ℕ) → get_or after head 0 ≡ next + 1 → JoinsTo head next
  joins_from_head next to =
      let here : place ≡ next = omega arith in
      subst (JoinsTo head) here
      ((λ none. omega arith), joins.place_home ∙ sym (joins_heads head joins.behind), omega arith)

  joins_from_other : (cell next : ℕ) → IsLive room ways cell → cell ≢ place → cell ≢ head → get_or after cell 0 ≡ next + 1 → JoinsTo cell next
  joins_from_other cell next live there too to =
      let led = joins.old.leads cell next (joins_live cell live there) (sym (joins.to_others cell there too) ∙ to) in (
        joins_kept next led.0,
        joins_home next led.0 ∙ led.1 ∙ sym (joins.other_home cell there),
        omega (arith, joins_rank next led.0, led.2, joins.other_rank cell there too),
      )

  joins_leads : (cell next : ℕ) → IsLive room ways cell → get_or after cell 0 ≡ next + 1 → JoinsTo cell next
  joins_leads cell next live to =
      joins_three_ways place head cell
      (λ (here : cell ≡ place). subst (λ n. JoinsTo n next) (sym here) (joins_from_place next (ap (λ n. get_or after n 0) (sym here) ∙ to)))
      (λ (here : cell ≡ head). subst (λ n. JoinsTo n next) (sym here) (joins_from_head next (ap (λ n. get_or after n 0) (sym here) ∙ to)))
      (λ there too. joins_from_other cell next live there too to)

  abbrev JoinsBack : ℕ → Type 0
  JoinsBack other = (cell : ℕ) × IsLive room ways cell × (get_or ways (other + 1) 0 ≡ cell + 1) × (get_or after cell 0 ≡ other + 1)

  joins_kept_live : (cell : ℕ) → IsLive room backs cell → IsLive room ways cell
  joins_kept_live cell live low = joins_kept cell (live low)

  joins_back_of_other : (other : ℕ) → IsLinked backs other → other ≢ place → get_or links head 0 ≢ other + 1 → JoinsBack other
  joins_back_of_other other was there apart =
      let led = joins.old.back other was in
      let past_head : led.0 ≢ head = λ here. apart (ap (λ n. get_or links n 0) (sym here) ∙ led.3) in
      let past_place : led.0 ≢ place = λ here. (led.1 (let low : led.0 < room = omega (arith, here) in low)) (ap (λ n. get_or backs (n + 1) 0) here
      ∙ joins.free) in
      (led.0, joins_kept_live led.0 led.1, joins.from_others other there apart ∙ led.2, joins.to_others led.0 past_place past_head ∙ led.3)

  joins_back : (other : ℕ) → IsLinked ways other → JoinsBack other
  joins_back other linked =
      ⊎_elim
      (λ (here : other ≡ place). subst JoinsBack (sym here) (head, (λ low. absurd (omega arith)), joins.from_head, joins.to_place))
      (λ (there : other ≡ place → ⊥). ⊎_elim
      (λ (next : get_or links head 0 ≡ other + 1). (place, (λ low none. omega arith), joins.from_place other next, joins.to_next ∙ next))
      (λ (apart : get_or links head 0 ≡ other + 1 → ⊥). joins_back_of_other other (joins_linked other linked there) there apart)
      (cases_eq (get_or links head 0) (other + 1)))
      (cases_eq other place)

  pub chains_after_join : AreChains room after ways ranked homed
  chains_after_join = record {
    heads = joins_heads;
    within = joins_within;
    homes = joins_homes;
    apart = joins_apart;
    top = joins_top;
    bound = joins_bound;
    ends = joins_ends;
    leads = joins_leads;
    back = joins_back;
  }
