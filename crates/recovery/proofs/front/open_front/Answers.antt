use Rattle.std.proofs.Common.{◌≢◌, ◌∙◌, ap, refl, subst, sym, rules}
use Rattle.slot_disk.specs.{KnownSlotsState}
use Rattle.checkpoint.specs.declared.header.StoreHeader.{StoreHeader}
use Rattle.recovery.specs.Reading.{HasHeader}
use Rattle.recovery.proofs.front.open_front.Goals as goal

pub returns-then-not-are_same-clause-refused : goal.returns-then-not-are_same-clause-refused
returns-then-not-are_same-clause-refused g c = λ image is.
    let store = c.in_ok-slots.ensures.stands image (c.in_ok-slots.ensures.reads ∙ is) in
    let header = c.in-Some.header in
    let spelled = (c.in-Some.ensures header).0 refl in
    let shown = ap (λ (s : KnownSlotsState). s.header) (sym store.slots_are) ∙ sym c.header.ensures ∙ spelled.1 in
    let has : HasHeader header image = record { long = store.long; is_header = spelled.0; spelled = shown } in
    let differ : header.settings ≢ c.args.settings.now = λ same. search rules in (
      subst (λ (h : StoreHeader). HasHeader h image) (sym (c.stores_show_their_header.ensures header image shown)) has,
      refl,
      differ,
    )

pub returns-clause-is_header : goal.returns-clause-is_header
returns-clause-is_header g c = ((c.in-Some.ensures c.in-Some.header).0 refl).0

pub returns-clause-shows : goal.returns-clause-shows
returns-clause-shows g c = λ image is.
    let store = c.in_ok-slots.ensures.stands image (c.in_ok-slots.ensures.reads ∙ is) in
    let header = c.in-Some.header in
    let spelled = (c.in-Some.ensures header).0 refl in
    let shown = ap (λ (s : KnownSlotsState). s.header) (sym store.slots_are) ∙ sym c.header.ensures ∙ spelled.1 in (
      record { long = store.long; is_header = spelled.0; spelled = shown },
      search rules,
    )
