use Rattle.std.proofs.Common.{◌≡◌, ◌-◌, ◌<◌, ◌++◌, ◌∷◌, ℕ, List, get_or, set, length, sym, ap, subst}
use Rattle.std.proofs.Common.{◌∙◌, arith}
use Rattle.std.proofs.lemmas.List.{length-map}
use Rattle.stream_summary.specs.declared.links.Link.{Link}
use Rattle.stream_summary.specs.Links.{befores, nexts, walked}
use Rattle.stream_summary.specs.Ring.{IsIn, RingValue}
use Rattle.stream_summary.proofs.RingLemmas.{RingRemoves, ring_as_walked, before_is_a_cell, next_is_a_cell}
use Rattle.stream_summary.proofs.RingLemmas.{arena_number_is_below}
use Rattle.stream_summary.proofs.RingLemmas.{ring_removed, walked_ring}
use Rattle.stream_summary.proofs.ring.Ring.remove.Given.{Over}
use Rattle.stream_summary.proofs.ring.Ring.remove.Goals as goal

pub before_of-before-requires : goal.before_of-before-requires
before_of-before-requires g c =
    let i = c.self.inside in
    let number = g.N.Number.value_of c.args.number in
    let order = walked i.len (nexts i.links.items) i.room in
    let there : IsIn number order = subst (λ (ring : RingValue). IsIn number ring.order) (sym c.self.view_is)
    c.requires in
    let low : number < i.room = arena_number_is_below i.room i.len (nexts i.links.items) (befores i.links.items) order
    number c.self.invariant there in
    omega (
      arith,
      low,
      c.index-here.ensures,
      c.self.invariant.cells_on,
      length-map i.links.items (λ (link : Link). link.next),
      ap (λ (links : List Link). length links) c.deref.ensures.value,
    )

pub next_of-next-requires : goal.next_of-next-requires
next_of-next-requires g c =
    let i = c.self.inside in
    let number = g.N.Number.value_of c.args.number in
    let order = walked i.len (nexts i.links.items) i.room in
    let there : IsIn number order = subst (λ (ring : RingValue). IsIn number ring.order) (sym c.self.view_is)
    c.requires in
    let low : number < i.room = arena_number_is_below i.room i.len (nexts i.links.items) (befores i.links.items) order
    number c.self.invariant there in
    omega (
      arith,
      low,
      c.index-here.ensures,
      c.self.invariant.cells_on,
      length-map i.links.items (λ (link : Link). link.next),
      ap (λ (links : List Link). length links) c.deref-2.ensures.value,
    )

-- where the number leads, both ways
neighbours : (g : Over) (c : goal.After-join-arg-1 g)
    → (c.before_of-before.result ≡ get_or (befores c.self.inside.links.items) (g.N.Number.value_of c.args.number) 0)
    × (c.next_of-next.result ≡ get_or (nexts c.self.inside.links.items) (g.N.Number.value_of c.args.number) 0)
neighbours g c =
    let number = g.N.Number.value_of c.args.number in (
      c.before_of-before.ensures ∙ ap (λ cell. get_or (befores c.deref.result.now) cell 0) c.index-here.ensures
          ∙ ap (λ links. get_or (befores links) number 0) c.deref.ensures.value,
      c.next_of-next.ensures ∙ ap (λ cell. get_or (nexts c.deref-2.result.now) cell 0) c.index-here.ensures
          ∙ ap (λ links. get_or (nexts links) number 0) c.deref-2.ensures.value,
    )

pub join-requires-clause-cell : goal.join-requires-clause-cell
join-requires-clause-cell g c =
    let i = c.self.inside in
    let number = g.N.Number.value_of c.args.number in
    let order = walked i.len (nexts i.links.items) i.room in
    let there : IsIn number order = subst (λ (ring : RingValue). IsIn number ring.order) (sym c.self.view_is)
    c.requires in
    omega (
      arith,
      (neighbours g c).0,
      before_is_a_cell i.room i.len (nexts i.links.items) (befores i.links.items) order number c.self.invariant there,
      c.self.invariant.cells_on,
      length-map i.links.items (λ (link : Link). link.next),
    )

pub join-requires-clause-next : goal.join-requires-clause-next
join-requires-clause-next g c =
    let i = c.self.inside in
    let number = g.N.Number.value_of c.args.number in
    let order = walked i.len (nexts i.links.items) i.room in
    let there : IsIn number order = subst (λ (ring : RingValue). IsIn number ring.order) (sym c.self.view_is)
    c.requires in
    omega (
      arith,
      (neighbours g c).1,
      next_is_a_cell i.room i.len (nexts i.links.items) (befores i.links.items) order number c.self.invariant there,
      c.self.invariant.cells_on,
      length-map i.links.items (λ (link : Link). link.next),
    )

-- what the call of `join` did
removes : (g : Over) (c : goal.After-self-1 g)
    → RingRemoves c.self.inside.room c.self.inside.len (nexts c.self.inside.links.items)
    (befores c.self.inside.links.items) (walked c.self.inside.len (nexts c.self.inside.links.items) c.self.inside.room)
    (g.N.Number.value_of c.args.number) (nexts c.join.new.links.items) (befores c.join.new.links.items)
removes g c =
    let i = c.self.inside in
    let number = g.N.Number.value_of c.args.number in
    let before = c.before_of-before.result in
    let next = c.next_of-next.result in
    let is_before : before ≡ get_or (befores i.links.items) number 0 =
    c.before_of-before.ensures ∙ ap (λ cell. get_or (befores c.deref.result.now) cell 0) c.index-here.ensures
    ∙ ap (λ links. get_or (befores links) number 0) c.deref.ensures.value in
    let is_next : next ≡ get_or (nexts i.links.items) number 0 =
    c.next_of-next.ensures ∙ ap (λ cell. get_or (nexts c.deref-2.result.now) cell 0) c.index-here.ensures
    ∙ ap (λ links. get_or (nexts links) number 0) c.deref-2.ensures.value in
    record {
      links = c.self.invariant;
      on_is = c.join.ensures.nexts ∙ ap (λ before. set (nexts i.links.items) before next) is_before
          ∙ ap (λ next. set (nexts i.links.items) (get_or (befores i.links.items) number 0) next) is_next;
      back_is = c.join.ensures.befores ∙ ap (λ next. set (befores i.links.items) next before) is_next
          ∙ ap (λ before. set (befores i.links.items) (get_or (nexts i.links.items) number 0) before) is_before;
    }

pub invariant_of-self : goal.invariant_of-self
invariant_of-self g c =
    let i = c.self.inside in
    let number = g.N.Number.value_of c.args.number in
    let order = walked i.len (nexts i.links.items) i.room in
    let there : IsIn number order = subst (λ (ring : RingValue). IsIn number ring.order) (sym c.self.view_is)
    c.requires in
    ring_as_walked i.room (i.len - 1) (nexts c.join.new.links.items) (befores c.join.new.links.items)
    (there.front ++ there.back)
    (ring_removed i.room i.len (nexts i.links.items) (befores i.links.items) order number (nexts c.join.new.links.items)
    (befores c.join.new.links.items)
    there.front there.back (removes g c) there.is)

pub returns-clause-ring : goal.returns-clause-ring
returns-clause-ring g c = (invariant_of-self g c).ring

pub returns-clause-order : goal.returns-clause-order
returns-clause-order g c =
    let i = c.self.inside in
    let number = g.N.Number.value_of c.args.number in
    let order = walked i.len (nexts i.links.items) i.room in
    let new = walked (i.len - 1) (nexts c.join.new.links.items) i.room in
    subst (λ (ring : RingValue). (front back : List ℕ) → ring.order ≡ front ++ number ∷ back → new ≡ front ++ back)
    c.self.view_is
    (λ front back split.
    walked_ring i.room (i.len - 1) (nexts c.join.new.links.items) (befores c.join.new.links.items) (front ++ back)
    (ring_removed i.room i.len (nexts i.links.items) (befores i.links.items) order number (nexts c.join.new.links.items)
    (befores c.join.new.links.items)
    front back (removes g c) split))
