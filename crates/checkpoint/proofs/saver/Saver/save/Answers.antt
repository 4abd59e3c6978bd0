use Rattle.std.proofs.Common.{◌≡◌, ℕ, ap, sym, ◌∙◌, subst, rules}
use Rattle.std.specs.Prelude.{is_some}
use Rattle.slot_disk.specs.{FitsSlot, IsStoreOfKnown, CrashLeaves-none, KnownSlotsState}
use Rattle.slot_disk.specs.{other_slot_of, after_opening}
use Rattle.checkpoint.specs.Header.{AreSettings}
use Rattle.checkpoint.specs.Lengths.{span_of}
use Rattle.checkpoint.specs.Store.{OpensOldOrNew}
use Rattle.checkpoint.specs.Saver.{SaverState, IsSafeSaver, saver_after, next_saved}
use Rattle.checkpoint.proofs.OptionLemmas.{option_is_some}
use Rattle.checkpoint.proofs.StoreLemmas.{store_has_room_for_body}
use Rattle.checkpoint.proofs.SaverLemmas.{saver_makes_next_body, saver_is_ready, saver_leaves, saver_leaves_none}
use Rattle.checkpoint.proofs.SaverLemmas.{saver_stands, saver_stands_after}
use Rattle.checkpoint.proofs.SaverLemmas.{saver_opens_after}
use Rattle.checkpoint.proofs.saver.Saver.save.Goals as goal

pub returns-in_default-clause-any_moment : goal.returns-in_default-clause-any_moment
returns-in_default-clause-any_moment g c = λ old is.
    CrashLeaves-none g.D.Disk.moment g.D.Disk.image_since c.args.disk.now
    (OpensOldOrNew c.args.self.header old (next_saved c.args.self c.args.cut.now))
    (λ image was. saver_leaves_none c.args.self (g.D.Disk.image_now c.args.disk.now) old (next_saved c.args.self c.args.cut.now)
    (c.requires.stands old is) image (g.met.D.Disk.only_now c.args.disk.now image was))

pub returns-in_default-positions-clause-any_moment :
    goal.returns-in_default-positions-clause-any_moment
returns-in_default-positions-clause-any_moment g c = λ old is.
    CrashLeaves-none g.D.Disk.moment g.D.Disk.image_since c.args.disk.now
    (OpensOldOrNew c.args.self.header old (next_saved c.args.self c.args.cut.now))
    (λ image was. saver_leaves_none c.args.self (g.D.Disk.image_now c.args.disk.now) old (next_saved c.args.self c.args.cut.now)
    (c.requires.stands old is) image (g.met.D.Disk.only_now c.args.disk.now image was))

pub put-requires-clause-body : goal.put-requires-clause-body
put-requires-clause-body g c =
    let is_span : c.span.result ≡ span_of c.args.self.header.settings =
    c.span.ensures.span ∙ ap (λ (s : SaverState). span_of s.header.settings) c.self.view_is in
    let is = saver_makes_next_body c.args.self c.args.cut.now c.self.inside.sequence c.self.inside.digest c.deref.result.now c.in-Ok.body.items
    (ap (λ (s : SaverState). s.sequence) c.self.view_is) (ap (λ (s : SaverState). s.digest) c.self.view_is)
    c.requires.shape c.deref.ensures.value c.in-Ok.ensures.body in
    subst (λ (n : ℕ). FitsSlot n c.deref.result.now) (sym is_span)
    (store_has_room_for_body c.args.self.header.settings (next_saved c.args.self c.args.cut.now) c.deref.result.now
    (subst AreSettings (ap (λ (s : SaverState). s.header.settings) c.self.view_is) c.self.invariant.0.settings) is)

pub put-requires-clause-stands : goal.put-requires-clause-stands
put-requires-clause-stands g c = λ old is.
    subst (λ (s : KnownSlotsState). IsStoreOfKnown old (g.D.Disk.image_now c.args.disk.now) s) (sym (ap (λ (s : SaverState). s.slots) c.self.view_is))
    (saver_stands c.args.self (g.D.Disk.image_now c.args.disk.now) old (c.requires.stands old is))

pub put-requires-clause-ready : goal.put-requires-clause-ready
put-requires-clause-ready g c = λ old is.
    saver_is_ready c.args.self (g.D.Disk.image_now c.args.disk.now) old (c.requires.stands old is) c.span.result c.other_slot-slot.result
    (c.span.ensures.span ∙ ap (λ (s : SaverState). span_of s.header.settings) c.self.view_is)
    (c.other_slot-slot.ensures ∙ ap (λ (s : SaverState). other_slot_of s.newest_slot) c.self.view_is)

pub returns-in_err-slots-clause-any_moment : goal.returns-in_err-slots-clause-any_moment
returns-in_err-slots-clause-any_moment g c = λ old is.
    saver_leaves c.args.self (g.D.Disk.image_now c.args.disk.now) old (c.requires.stands old is) c.span.result c.other_slot-slot.result
    (c.span.ensures.span ∙ ap (λ (s : SaverState). span_of s.header.settings) c.self.view_is)
    (c.other_slot-slot.ensures ∙ ap (λ (s : SaverState). other_slot_of s.newest_slot) c.self.view_is)
    c.args.cut.now c.deref.result.now
    (saver_makes_next_body c.args.self c.args.cut.now c.self.inside.sequence c.self.inside.digest c.deref.result.now c.in-Ok.body.items
    (ap (λ (s : SaverState). s.sequence) c.self.view_is) (ap (λ (s : SaverState). s.digest) c.self.view_is)
    c.requires.shape c.deref.ensures.value c.in-Ok.ensures.body)
    g.D.Disk.moment g.D.Disk.image_since c.args.disk.now c.put.new.disk (c.in_err-slots.ensures.any_moment old is)

pub returns-clause-stands : goal.returns-clause-stands
returns-clause-stands g c = λ new is.
    let begun = option_is_some (g.D.Disk.reads c.args.disk.now) (sym c.in_ok-slots.ensures.known ∙ ap is_some is) in
    let saved : _ ≡ saver_after c.args.self c.args.cut.now = search rules in
    subst (λ (s : SaverState). IsSafeSaver s (g.D.Disk.image_now c.put.new.disk) new) (sym saved)
    (saver_stands_after c.args.self (g.D.Disk.image_now c.args.disk.now) begun.0 (c.requires.stands begun.0 begun.1)
    c.span.result c.other_slot-slot.result
    (c.span.ensures.span ∙ ap (λ (s : SaverState). span_of s.header.settings) c.self.view_is)
    (c.other_slot-slot.ensures ∙ ap (λ (s : SaverState). other_slot_of s.newest_slot) c.self.view_is)
    c.args.cut.now c.deref.result.now
    (saver_makes_next_body c.args.self c.args.cut.now c.self.inside.sequence c.self.inside.digest c.deref.result.now c.in-Ok.body.items
    (ap (λ (s : SaverState). s.sequence) c.self.view_is) (ap (λ (s : SaverState). s.digest) c.self.view_is)
    c.requires.shape c.deref.ensures.value c.in-Ok.ensures.body)
    (g.D.Disk.image_now c.put.new.disk) new c.in_ok-slots.slots (c.in_ok-slots.ensures.done begun.0 new begun.1 is)
    (c.in_ok-slots.ensures.stands new is)
    (c.in_ok-slots.ensures.opened ∙ ap (λ (s : SaverState). after_opening s.slots c.other_slot-slot.result) c.self.view_is))

pub returns-clause-opens : goal.returns-clause-opens
returns-clause-opens g c = λ new is image now.
    let begun = option_is_some (g.D.Disk.reads c.args.disk.now) (sym c.in_ok-slots.ensures.known ∙ ap is_some is) in
    saver_opens_after c.args.self (g.D.Disk.image_now c.args.disk.now) begun.0 (c.requires.stands begun.0 begun.1)
    c.span.result c.other_slot-slot.result
    (c.span.ensures.span ∙ ap (λ (s : SaverState). span_of s.header.settings) c.self.view_is)
    (c.other_slot-slot.ensures ∙ ap (λ (s : SaverState). other_slot_of s.newest_slot) c.self.view_is)
    c.args.cut.now c.deref.result.now
    (saver_makes_next_body c.args.self c.args.cut.now c.self.inside.sequence c.self.inside.digest c.deref.result.now c.in-Ok.body.items
    (ap (λ (s : SaverState). s.sequence) c.self.view_is) (ap (λ (s : SaverState). s.digest) c.self.view_is)
    c.requires.shape c.deref.ensures.value c.in-Ok.ensures.body)
    (g.D.Disk.image_now c.put.new.disk) new c.in_ok-slots.slots (c.in_ok-slots.ensures.done begun.0 new begun.1 is)
    (c.in_ok-slots.ensures.stands new is) image now

pub returns-clause-any_moment : goal.returns-clause-any_moment
returns-clause-any_moment g c = λ old is.
    saver_leaves c.args.self (g.D.Disk.image_now c.args.disk.now) old (c.requires.stands old is) c.span.result c.other_slot-slot.result
    (c.span.ensures.span ∙ ap (λ (s : SaverState). span_of s.header.settings) c.self.view_is)
    (c.other_slot-slot.ensures ∙ ap (λ (s : SaverState). other_slot_of s.newest_slot) c.self.view_is)
    c.args.cut.now c.deref.result.now
    (saver_makes_next_body c.args.self c.args.cut.now c.self.inside.sequence c.self.inside.digest c.deref.result.now c.in-Ok.body.items
    (ap (λ (s : SaverState). s.sequence) c.self.view_is) (ap (λ (s : SaverState). s.digest) c.self.view_is)
    c.requires.shape c.deref.ensures.value c.in-Ok.ensures.body)
    g.D.Disk.moment g.D.Disk.image_since c.args.disk.now c.put.new.disk (c.in_ok-slots.ensures.any_moment old is)
