use Rattle.std.proofs.Common.{◌≡◌, ◌<◌, ◌++◌, ◌∷◌, ℕ, List, [], get_or, sym, ap, subst, ◌∙◌, arith, length, MatchOption}
use Rattle.std.proofs.lemmas.List.{length-map}
use Rattle.stream_summary.specs.declared.links.Link.{Link}
use Rattle.stream_summary.specs.Links.{befores, nexts, walked}
use Rattle.stream_summary.specs.Ring.{IsLastOf, IsIn, RingValue}
use Rattle.stream_summary.proofs.RingLemmas.{before_is_a_cell, last_ahead, arena_number_is_below}
use Rattle.stream_summary.proofs.ring.Ring.before.Goals as goal

pub before_of-requires : goal.before_of-requires
before_of-requires g c =
    let i = c.self.inside in
    let number = g.N.Number.value_of c.args.number in
    let order = walked i.len (nexts i.links.items) i.room in
    let there : IsIn number order = subst (λ (ring : RingValue). IsIn number ring.order) (sym c.self.view_is)
    c.requires in
    let low : number < i.room = arena_number_is_below i.room i.len (nexts i.links.items) (befores i.links.items) order
    number c.self.invariant there in
    omega (
      arith,
      low,
      c.index.ensures,
      c.self.invariant.cells_back,
      length-map i.links.items (λ (link : Link). link.before),
      ap (λ (links : List Link). length links) c.deref.ensures.value,
    )

pub number_of-requires : goal.number_of-requires
number_of-requires g c =
    let i = c.self.inside in
    let number = g.N.Number.value_of c.args.number in
    let order = walked i.len (nexts i.links.items) i.room in
    let there : IsIn number order = subst (λ (ring : RingValue). IsIn number ring.order) (sym c.self.view_is)
    c.requires in
    let is : c.before_of.result ≡ get_or (befores i.links.items) number 0 =
    c.before_of.ensures ∙ ap (λ cell. get_or (befores c.deref.result.now) cell 0) c.index.ensures
    ∙ ap (λ links. get_or (befores links) number 0) c.deref.ensures.value in
    let room : i.room ≡ c.args.self.now.room = ap (λ (ring : RingValue). ring.room) c.self.view_is in
    omega (
      arith,
      is,
      room,
      before_is_a_cell i.room i.len (nexts i.links.items) (befores i.links.items) order number
          c.self.invariant there,
    )

pub returns : goal.returns
returns g c =
    let i = c.self.inside in
    let value_of = g.N.Number.value_of in
    let number = g.N.Number.value_of c.args.number in
    let order = walked i.len (nexts i.links.items) i.room in
    let found = c.number_of.result in
    let before = c.before_of.result in
    let is : get_or (befores i.links.items) number 0 ≡ before =
    sym (c.before_of.ensures ∙ ap (λ cell. get_or (befores c.deref.result.now) cell 0) c.index.ensures
    ∙ ap (λ links. get_or (befores links) number 0) c.deref.ensures.value) in
    subst (λ (ring : RingValue). (front back : List ℕ) → ring.order ≡ front ++ number ∷ back
    → MatchOption found (front ≡ []) (λ before. IsLastOf (value_of before) front)) c.self.view_is
    (last_ahead i.room i.len (nexts i.links.items) (befores i.links.items) order number c.self.invariant value_of
    found before is
    (subst (λ (ring : RingValue). MatchOption found (before ≡ ring.room)
    (λ number. (value_of number ≡ before) × (before < ring.room)))
    (sym c.self.view_is) c.number_of.ensures))
