use Rattle.std.proofs.Common.{◌≡◌, ◌<◌, [], get_or, sym, ap, subst, ◌∙◌, arith, MatchOption}
use Rattle.stream_summary.specs.Links.{befores, nexts, walked}
use Rattle.stream_summary.specs.Ring.{IsLastOf, RingValue}
use Rattle.stream_summary.proofs.RingLemmas.{ring_last_fits, ring_last_of_part}
use Rattle.stream_summary.proofs.ring.Ring.last.Goals as goal

pub number_of-requires : goal.number_of-requires
number_of-requires g c =
    let i = c.self.inside in
    let is : c.before_of.result ≡ get_or (befores i.links.items) i.room 0 =
    c.before_of.ensures ∙ ap (λ links. get_or (befores links) i.room 0) c.deref.ensures.value in
    let room : i.room ≡ c.args.self.now.room = ap (λ (ring : RingValue). ring.room) c.self.view_is in
    omega (
      arith,
      is,
      room,
      ring_last_fits i.room i.len (nexts i.links.items) (befores i.links.items) (walked i.len (nexts i.links.items) i.room)
          c.self.invariant,
    )

pub returns : goal.returns
returns g c =
    let i = c.self.inside in
    let value_of = g.N.Number.value_of in
    let found = c.number_of.result in
    let before = c.before_of.result in
    let is : get_or (befores i.links.items) i.room 0 ≡ before =
    sym (c.before_of.ensures ∙ ap (λ links. get_or (befores links) i.room 0) c.deref.ensures.value) in
    subst (λ (ring : RingValue). MatchOption found (ring.order ≡ [])
    (λ number. IsLastOf (value_of number) ring.order)) c.self.view_is
    (ring_last_of_part value_of found (nexts i.links.items) (befores i.links.items)
    (walked i.len (nexts i.links.items) i.room) i.room i.room before
    c.self.invariant.linked is c.self.invariant.ring.below
    (subst (λ (ring : RingValue). MatchOption found (before ≡ ring.room)
    (λ number. (value_of number ≡ before) × (before < ring.room)))
    (sym c.self.view_is) c.number_of.ensures))
