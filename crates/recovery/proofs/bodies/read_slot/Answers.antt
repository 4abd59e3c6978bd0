use Rattle.std.proofs.Common.{◌≡◌, ◌∙◌, ap, sym, subst, true, ℕ, Some, Err, rules}
use Rattle.slot_disk.specs.{known_slot_open, shown_in, slot_body}
use Rattle.checkpoint.specs.{IsBody, span_of, saved_value}
use Rattle.recovery.specs.Found.{IsBodyFault}
use Rattle.recovery.specs.declared.store_fault.StoreFault.{StoreFault}
use Rattle.recovery.proofs.FaultCountLemmas.{fault_of_body_is_of_disk, fault_of_decode_is_not_of_disk, fault_of_slot_is_of_disk}
use Rattle.recovery.proofs.OpenSlotLemmas.{open_slot_is_damaged, open_slot_is_known, open_slot_shows_stored}
use Rattle.recovery.proofs.OpenSlotLemmas.{open_slot_fault_without_body}
use Rattle.checkpoint.specs.{settings_shape}
use Rattle.recovery.proofs.bodies.read_slot.Goals as goal

pub returns-then-not-gate-clause-fault : goal.returns-then-not-gate-clause-fault
returns-then-not-gate-clause-fault g c = λ is. absurd (cc is)

pub returns-in-Err-clause-fault : goal.returns-in-Err-clause-fault
returns-in-Err-clause-fault g c =
    rw c.fault_of_body.ensures (λ is. c.in-Err.ensures.fault (fault_of_body_is_of_disk c.in-Err.fault _ is))

pub returns-in-Err-clause-no_fault : goal.returns-in-Err-clause-no_fault
returns-in-Err-clause-no_fault g c =
    rw c.fault_of_body.ensures (λ none.
    c.in-Err.ensures.no_fault (λ is. none (fault_of_slot_is_of_disk c.in-Err.fault _ is)))

pub returns-in-Ok-decode-clause-holds : goal.returns-in-Ok-decode-clause-holds
returns-in-Ok-decode-clause-holds g c = λ image is slots.
    let gate : known_slot_open c.args.slots.now c.args.slot ≡ true = search rules in
    let shows = open_slot_shows_stored c.args.settings.now c.args.slot image (open_slot_is_known c.args.slots.now c.args.slot image c.requires.slot slots
    gate) in
    let stored : slot_body (span_of c.args.settings.now) c.args.slot image ≡ Some c.in-Ok.body.items =
    subst (λ (n : ℕ). slot_body n c.args.slot image ≡ Some c.in-Ok.body.items) c.span.ensures.span (c.in-Ok.ensures.body image is) in (
      c.in-Ok.body.items,
      shows ∙ ap shown_in stored,
      subst (IsBody c.args.settings.now.shards (settings_shape c.args.settings.now) (saved_value c.in-Ok-decode.saved)) c.deref.ensures.value
          c.in-Ok-decode.ensures.body,
    )

pub returns-in-Ok-decode-clause-fault : goal.returns-in-Ok-decode-clause-fault
returns-in-Ok-decode-clause-fault g c = λ is. absurd (cc is)

pub returns-in-Ok-decode-clause-no_fault : goal.returns-in-Ok-decode-clause-no_fault
returns-in-Ok-decode-clause-no_fault g c = λ none. c.in-Ok.ensures.no_fault (λ is. cc is)

pub returns-clause-refused : goal.returns-clause-refused
returns-clause-refused g c = λ image is slots.
    let gate : known_slot_open c.args.slots.now c.args.slot ≡ true = search rules in
    let stored : slot_body (span_of c.args.settings.now) c.args.slot image ≡ Some c.in-Ok.body.items =
    subst (λ (n : ℕ). slot_body n c.args.slot image ≡ Some c.in-Ok.body.items) c.span.ensures.span (c.in-Ok.ensures.body image is) in
    subst (λ (f : StoreFault). IsBodyFault c.args.settings.now c.args.slot image f) (sym c.fault_of_decode.ensures)
    (open_slot_fault_without_body c.args.settings.now c.args.slot image c.in-Err-decode.fault
    (λ same. open_slot_is_damaged c.args.settings.now c.args.slot image c.in-Ok.body.items
    (open_slot_is_known c.args.slots.now c.args.slot image c.requires.slot slots gate) stored
    (λ saved body. c.in-Err-decode.ensures.damaged (ap Err same) saved
    (subst (IsBody c.args.settings.now.shards (settings_shape c.args.settings.now) saved) (sym c.deref.ensures.value) body))))

pub returns-clause-fault : goal.returns-clause-fault
returns-clause-fault g c =
    rw c.fault_of_decode.ensures (λ is. absurd (fault_of_decode_is_not_of_disk c.in-Err-decode.fault _ is))

pub returns-clause-no_fault : goal.returns-clause-no_fault
returns-clause-no_fault g c = λ none. c.in-Ok.ensures.no_fault (λ is. cc is)
