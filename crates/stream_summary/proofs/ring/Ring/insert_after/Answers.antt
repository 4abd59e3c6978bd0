use Rattle.std.proofs.Common.{◌≡◌, ◌≢◌, ◌+◌, ◌≤◌, ◌++◌, ◌∷◌, ℕ, List, get_or, set, length, sym, ap, subst, ◌∙◌, arith}
use Rattle.std.proofs.Common.{MatchOption, IfNone, IfSome}
use Rattle.std.specs.List.{All}
use Rattle.std.proofs.lemmas.List.{length-map, length-set}
use Rattle.stream_summary.specs.declared.links.Link.{Link}
use Rattle.stream_summary.specs.Links.{befores, nexts, walked}
use Rattle.stream_summary.specs.Ring.{IsIn, RingValue}
use Rattle.stream_summary.proofs.RingLemmas.{RingInserts, ring_cell_is_within, ring_next_of_cell_fits}
use Rattle.stream_summary.proofs.RingLemmas.{inserted_order, inserted_order_first, inserted_somewhere}
use Rattle.stream_summary.proofs.ring.Ring.insert_after.Given.{Over}
use Rattle.stream_summary.proofs.ring.Ring.insert_after.Goals as goal

pub next_of-next-requires : goal.next_of-next-requires
next_of-next-requires g c =
    let i = c.self.inside in
    let value_of = g.N.Number.value_of in
    let cell = c.cell_of-cell.result in
    let order = walked i.len (nexts i.links.items) i.room in
    let within : cell ≤ i.room = ring_cell_is_within value_of c.args.at i.room i.len (nexts i.links.items)
    (befores i.links.items) order cell
    c.self.invariant (subst (λ (ring : RingValue). IfSome c.args.at (λ at. IsIn (value_of at) ring.order))
    (sym c.self.view_is) c.requires.at)
    (subst (λ (ring : RingValue). MatchOption c.args.at (cell ≡ ring.room) (λ at. cell ≡ value_of at))
    (sym c.self.view_is) c.cell_of-cell.ensures) in
    omega (
      arith,
      within,
      c.self.invariant.cells_on,
      length-map i.links.items (λ (link : Link). link.next),
      ap (λ (links : List Link). length links) c.deref.ensures.value,
    )

pub join-requires-clause-cell : goal.join-requires-clause-cell
join-requires-clause-cell g c =
    let i = c.self.inside in
    let value_of = g.N.Number.value_of in
    let cell = c.cell_of-cell.result in
    let order = walked i.len (nexts i.links.items) i.room in
    let within : cell ≤ i.room = ring_cell_is_within value_of c.args.at i.room i.len (nexts i.links.items)
    (befores i.links.items) order cell
    c.self.invariant (subst (λ (ring : RingValue). IfSome c.args.at (λ at. IsIn (value_of at) ring.order))
    (sym c.self.view_is) c.requires.at)
    (subst (λ (ring : RingValue). MatchOption c.args.at (cell ≡ ring.room) (λ at. cell ≡ value_of at))
    (sym c.self.view_is) c.cell_of-cell.ensures) in
    omega (arith, within, c.self.invariant.cells_on, length-map i.links.items (λ (link : Link). link.next))

pub join-requires-2-clause-next : goal.join-requires-2-clause-next
join-requires-2-clause-next g c =
    let i = c.self.inside in
    let value_of = g.N.Number.value_of in
    let cell = c.cell_of-cell.result in
    let order = walked i.len (nexts i.links.items) i.room in
    let is : c.next_of-next.result ≡ get_or (nexts i.links.items) cell 0 =
    c.next_of-next.ensures ∙ ap (λ links. get_or (nexts links) cell 0) c.deref.ensures.value in
    let within : get_or (nexts i.links.items) cell 0 ≤ i.room =
    ring_next_of_cell_fits value_of c.args.at i.room i.len (nexts i.links.items) (befores i.links.items) order cell
    c.self.invariant (subst (λ (ring : RingValue). IfSome c.args.at (λ at. IsIn (value_of at) ring.order))
    (sym c.self.view_is) c.requires.at)
    (subst (λ (ring : RingValue). MatchOption c.args.at (cell ≡ ring.room) (λ at. cell ≡ value_of at))
    (sym c.self.view_is) c.cell_of-cell.ensures) in
    omega (
      arith,
      is,
      within,
      c.self.invariant.cells_on,
      length-map c.join.new.links.items (λ (link : Link). link.next),
      ap (λ (cells : List ℕ). length cells) c.join.ensures.nexts,
      length-set (nexts i.links.items) cell c.index-here.result,
    )

-- what the two calls of `join` did
inserts : (g : Over) (c : goal.After-self-1 g)
    → RingInserts c.self.inside.room c.self.inside.len (nexts c.self.inside.links.items)
    (befores c.self.inside.links.items) (walked c.self.inside.len (nexts c.self.inside.links.items) c.self.inside.room)
    c.cell_of-cell.result (g.N.Number.value_of c.args.number) (nexts c.join-2.new.links.items)
    (befores c.join-2.new.links.items)
inserts g c =
    let i = c.self.inside in
    let number = g.N.Number.value_of c.args.number in
    let cell = c.cell_of-cell.result in
    let next = c.next_of-next.result in
    let here = c.index-here.result in
    let is : next ≡ get_or (nexts i.links.items) cell 0 =
    c.next_of-next.ensures ∙ ap (λ links. get_or (nexts links) cell 0) c.deref.ensures.value in
    let room : i.room ≡ c.args.self.now.room = ap (λ (ring : RingValue). ring.room) c.self.view_is in
    record {
      links = c.self.invariant;
      low = omega (arith, c.requires.below, room);
      apart = subst (λ (ring : RingValue). All (λ other. other ≢ number) ring.order) (sym c.self.view_is)
          c.requires.apart;
      on_is = c.join-2.ensures.nexts ∙ ap (λ cells. set cells here next) c.join.ensures.nexts
          ∙ ap (λ here. set (set (nexts i.links.items) cell here) here next) c.index-here.ensures
          ∙ ap (λ next. set (set (nexts i.links.items) cell number) number next) is;
      back_is = c.join-2.ensures.befores ∙ ap (λ cells. set cells next here) c.join.ensures.befores
          ∙ ap (λ here. set (set (befores i.links.items) here cell) next here) c.index-here.ensures
          ∙ ap (λ next. set (set (befores i.links.items) number cell) next number) is;
    }

pub invariant_of-self : goal.invariant_of-self
invariant_of-self g c =
    let i = c.self.inside in
    let value_of = g.N.Number.value_of in
    let cell = c.cell_of-cell.result in
    let order = walked i.len (nexts i.links.items) i.room in
    inserted_somewhere i.room i.len (nexts i.links.items) (befores i.links.items) order cell (value_of c.args.number)
    (nexts c.join-2.new.links.items) (befores c.join-2.new.links.items) (inserts g c) value_of c.args.at
    (subst (λ (ring : RingValue). IfSome c.args.at (λ at. IsIn (value_of at) ring.order)) (sym c.self.view_is)
    c.requires.at)
    (subst (λ (ring : RingValue). MatchOption c.args.at (cell ≡ ring.room) (λ at. cell ≡ value_of at))
    (sym c.self.view_is) c.cell_of-cell.ensures)

pub returns-clause-ring : goal.returns-clause-ring
returns-clause-ring g c = (invariant_of-self g c).ring

pub returns-clause-first : goal.returns-clause-first
returns-clause-first g c =
    let i = c.self.inside in
    let value_of = g.N.Number.value_of in
    let number = value_of c.args.number in
    let cell = c.cell_of-cell.result in
    let order = walked i.len (nexts i.links.items) i.room in
    let new = walked (i.len + 1) (nexts c.join-2.new.links.items) i.room in
    subst (λ (ring : RingValue). IfNone c.args.at (new ≡ number ∷ ring.order)) c.self.view_is
    (inserted_order_first i.room i.len (nexts i.links.items) (befores i.links.items) order cell number
    (nexts c.join-2.new.links.items) (befores c.join-2.new.links.items) (inserts g c) value_of c.args.at
    (subst (λ (ring : RingValue). MatchOption c.args.at (cell ≡ ring.room) (λ at. cell ≡ value_of at))
    (sym c.self.view_is) c.cell_of-cell.ensures))

pub returns-clause-order : goal.returns-clause-order
returns-clause-order g c =
    let i = c.self.inside in
    let value_of = g.N.Number.value_of in
    let number = value_of c.args.number in
    let cell = c.cell_of-cell.result in
    let order = walked i.len (nexts i.links.items) i.room in
    let new = walked (i.len + 1) (nexts c.join-2.new.links.items) i.room in
    subst (λ (ring : RingValue). IfSome c.args.at
    (λ at. (front back : List ℕ) → ring.order ≡ front ++ value_of at ∷ back
    → new ≡ front ++ value_of at ∷ number ∷ back)) c.self.view_is
    (inserted_order i.room i.len (nexts i.links.items) (befores i.links.items) order cell number
    (nexts c.join-2.new.links.items) (befores c.join-2.new.links.items) (inserts g c) value_of c.args.at
    (subst (λ (ring : RingValue). MatchOption c.args.at (cell ≡ ring.room) (λ at. cell ≡ value_of at))
    (sym c.self.view_is) c.cell_of-cell.ensures))
