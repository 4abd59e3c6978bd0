-- The three parts of a put, one after the other.
use Rattle.std.proofs.Common.{◌≡◌, ℕ, zero, suc, ◌<◌, List, Bool, true, false, Option, Some, None, refl, sym, ap, ◌∙◌}
use Rattle.std.proofs.Common.{subst, inl, inr, ⊎_elim, arith}
use Rattle.std.specs.Prelude.{is_some, if◌then◌else◌}
use Rattle.slot_disk.specs.Images.{IsOnlyImage}
use Rattle.slot_disk.specs.Moments.{CrashLeaves, CrashLeaves-weaker, CrashLeaves-trans}
use Rattle.slot_disk.specs.StoreLayout.{is_gate_open, slot_header, slot_body, slot_content}
use Rattle.slot_disk.specs.StoreLayout.{shown_in, SlotContent, Closed, Broken, Whole}
use Rattle.slot_disk.specs.Slots.{KnownSlotsState, known_slot_open, after_opening}
use Rattle.slot_disk.specs.Slots.{known_slots_of, IsStoreOfKnown}
use Rattle.slot_disk.specs.Putting.{other_slot_of, IsSoundSlots, IsReadyForPut, CanClose, CanWrite, CanOpen}
use Rattle.slot_disk.specs.Putting.{IsSameApart, MayBeClosed}
use Rattle.slot_disk.specs.Putting.{IsClosed, IsStored, MayBeOpen, PutMayLeave, IsPut}

pub disk_put_finds_some : {X : Type 0} (found : Option X) → is_some found ≡ true → (x : X) × (found ≡ Some x)
disk_put_finds_some {X} None is = absurd (cc is)
disk_put_finds_some {X} (Some x) is = (x, refl)

disk_put_beside_is_transitive : (span slot : ℕ) (old mid new : List ℕ) → IsSameApart span slot old mid → IsSameApart span slot mid new
    → IsSameApart span slot old new
disk_put_beside_is_transitive span slot old mid new first second = record {
  long = second.long;
  no_shorter = omega (arith, first.no_shorter, second.no_shorter);
  bytes = λ place within apart.
      second.bytes place (omega (arith, first.no_shorter)) apart ∙ first.bytes place within apart;
  header = second.header ∙ first.header;
  other_slot = second.other_slot ∙ first.other_slot;
}

disk_put_other_is_sound : (span slot : ℕ) (old : List ℕ) → IsReadyForPut span slot old → IsSoundSlots (slot_content span (other_slot_of slot) old)
disk_put_other_is_sound span slot old ready = ⊎_elim (λ whole. inl whole) (λ closed. inr closed.0) ready.other_holds

disk_put_gate_is_known : (slot : ℕ) (bytes : List ℕ) → slot < 2 → is_gate_open slot bytes ≡ known_slot_open (known_slots_of bytes) slot
disk_put_gate_is_known zero bytes small = refl
disk_put_gate_is_known (suc zero) bytes small = refl
disk_put_gate_is_known (suc (suc slot)) bytes small = absurd (omega arith)

pub disk_put_can_close_gate : (span slot : ℕ) (old : List ℕ) (possible : List ℕ → Type 0) (slots : KnownSlotsState) → slot < 2
    → IsStoreOfKnown old possible slots → IsReadyForPut span slot old → CanClose span slot (known_slot_open slots slot) old
disk_put_can_close_gate span slot old possible slots small store ready = record {
  long = store.long;
  gate = disk_put_gate_is_known slot old small ∙ ap (λ (s : KnownSlotsState). known_slot_open s slot) (sym store.slots_are);
  slot_holds = ready.slot_holds;
  other_holds = disk_put_other_is_sound span slot old ready;
}

pub disk_put_can_write_body : (span slot : ℕ) (old mid : List ℕ) → IsReadyForPut span slot old → IsClosed span slot old mid → CanWrite span slot mid
disk_put_can_write_body span slot old mid ready closed = record {
  long = closed.beside.long;
  slot_holds = closed.slot_holds;
  other_holds = subst IsSoundSlots (sym closed.beside.other_slot) (disk_put_other_is_sound span slot old ready);
}

pub disk_put_can_open_gate : (span slot : ℕ) (body old mid : List ℕ) → CanWrite span slot old → IsStored span slot body old mid
    → CanOpen span slot body mid
disk_put_can_open_gate span slot body old mid can stored = record {
  long = stored.closed.beside.long;
  slot_holds = stored.closed.slot_holds;
  stored = stored.stored;
  other_holds = subst IsSoundSlots (sym stored.closed.beside.other_slot) can.other_holds;
}

pub disk_put_from_parts : (span slot : ℕ) (body old closed stored new : List ℕ) → IsClosed span slot old closed
    → IsStored span slot body closed stored → IsPut span slot body stored new → IsPut span slot body old new
disk_put_from_parts span slot body old closed stored new first second third = record {
  beside = disk_put_beside_is_transitive span slot old closed new first.beside (disk_put_beside_is_transitive span slot closed stored new
      second.closed.beside third.beside);
  slot_holds = third.slot_holds;
}

-- whether a gate is open shows in what its slot holds
abbrev disk_put_shows_open : SlotContent → Bool
disk_put_shows_open Closed = false
disk_put_shows_open Broken = true
disk_put_shows_open (Whole body) = true

disk_put_shows_open-gate : (gate : Bool) (stored : Option (List ℕ)) → disk_put_shows_open (if gate then shown_in stored else Closed) ≡ gate
disk_put_shows_open-gate false stored = refl
disk_put_shows_open-gate true None = refl
disk_put_shows_open-gate true (Some body) = refl

disk_put_shows_open-content : (span slot : ℕ) (image : List ℕ) → disk_put_shows_open (slot_content span slot image) ≡ is_gate_open slot image
disk_put_shows_open-content span slot image = disk_put_shows_open-gate (is_gate_open slot image) (slot_body span slot image)

disk_put_keeps_gate : (span slot : ℕ) (old new : List ℕ) → slot_content span slot new ≡ slot_content span slot old
    → is_gate_open slot new ≡ is_gate_open slot old
disk_put_keeps_gate span slot old new same = sym (disk_put_shows_open-content span slot new) ∙ ap disk_put_shows_open same
    ∙ disk_put_shows_open-content span slot old

disk_put_opens_gate : (span slot : ℕ) (body new : List ℕ) → slot_content span slot new ≡ Whole body → is_gate_open slot new ≡ true
disk_put_opens_gate span slot body new whole = sym (disk_put_shows_open-content span slot new) ∙ ap disk_put_shows_open whole

slots_after_disk_put : (span slot : ℕ) (body old new : List ℕ) → slot < 2 → IsPut span slot body old new
    → after_opening (known_slots_of old) slot ≡ known_slots_of new
slots_after_disk_put span zero body old new small put =
    let first : is_gate_open 0 new ≡ true = disk_put_opens_gate span 0 body new put.slot_holds in
    let second : is_gate_open 1 new ≡ is_gate_open 1 old = disk_put_keeps_gate span 1 old new put.beside.other_slot in
    let header : slot_header new ≡ slot_header old = put.beside.header in
    λ i. record { first_open = sym first i; second_open = sym second i; header = sym header i }
slots_after_disk_put span (suc zero) body old new small put =
    let first : is_gate_open 0 new ≡ is_gate_open 0 old = disk_put_keeps_gate span 0 old new put.beside.other_slot in
    let second : is_gate_open 1 new ≡ true = disk_put_opens_gate span 1 body new put.slot_holds in
    let header : slot_header new ≡ slot_header old = put.beside.header in
    λ i. record { first_open = sym first i; second_open = sym second i; header = sym header i }
slots_after_disk_put span (suc (suc slot)) body old new small put = absurd (omega arith)

pub disk_put_knows_slots : (span slot : ℕ) (body old new : List ℕ) (was is : List ℕ → Type 0) (slots after : KnownSlotsState) → slot < 2
    → IsStoreOfKnown old was slots → IsPut span slot body old new → IsOnlyImage new is → after ≡ after_opening slots slot
    → IsStoreOfKnown new is after
disk_put_knows_slots span slot body old new was is slots after small store put only opened = record {
  long = put.beside.long;
  slots_are = opened ∙ ap (λ (s : KnownSlotsState). after_opening s slot) store.slots_are ∙ slots_after_disk_put span slot body old new small put;
  only = only;
}

-- what each part may leave, as seen from the start
disk_put_may_leave_closed : (span slot : ℕ) (body old image : List ℕ) → MayBeClosed span slot old image → PutMayLeave span slot body old image
disk_put_may_leave_closed span slot body old image may = record {
  beside = may.beside;
  slot_holds = ⊎_elim (λ same. inl same) (λ closed. inr (inl closed))
      may.slot_holds;
}

disk_put_may_leave_unfinished : (span slot : ℕ) (body old mid image : List ℕ) → IsClosed span slot old mid → IsClosed span slot mid image
    → PutMayLeave span slot body old image
disk_put_may_leave_unfinished span slot body old mid image first second = record {
  beside = disk_put_beside_is_transitive span slot old mid image first.beside second.beside;
  slot_holds = inr (inl second.slot_holds);
}

disk_put_may_leave_open : (span slot : ℕ) (body old closed stored image : List ℕ) → IsClosed span slot old closed
    → IsStored span slot body closed stored
    → MayBeOpen span slot body stored image → PutMayLeave span slot body old image
disk_put_may_leave_open span slot body old closed stored image first second third = record {
  beside = disk_put_beside_is_transitive span slot old closed image first.beside (disk_put_beside_is_transitive span slot closed stored image
      second.closed.beside third.beside);
  slot_holds = inr third.slot_holds;
}

module _ {D : Type 0} (moment : D → ℕ) (image_since : D → ℕ → List ℕ → Type 0) (span slot : ℕ) (body old : List ℕ) where
  pub disk_put_leaves_closing : (begun closed : D) → CrashLeaves moment image_since begun closed (MayBeClosed span slot old)
      → CrashLeaves moment image_since begun closed (PutMayLeave span slot body old)
  disk_put_leaves_closing begun closed leaves =
      CrashLeaves-weaker moment image_since begun closed (MayBeClosed span slot old) (PutMayLeave span slot body old) leaves
      (disk_put_may_leave_closed span slot body old)

  pub disk_put_leaves_writing : (begun closed stored : D) (mid : List ℕ)
      → CrashLeaves moment image_since begun closed (MayBeClosed span slot old)
      → IsClosed span slot old mid → CrashLeaves moment image_since closed stored (IsClosed span slot mid)
      → CrashLeaves moment image_since begun stored (PutMayLeave span slot body old)
  disk_put_leaves_writing begun closed stored mid first is second =
      CrashLeaves-trans moment image_since begun closed stored (PutMayLeave span slot body old) (disk_put_leaves_closing begun closed first)
      (CrashLeaves-weaker moment image_since closed stored (IsClosed span slot mid) (PutMayLeave span slot body old) second
      (λ image now. disk_put_may_leave_unfinished span slot body old mid image is now))

  pub disk_put_leaves_opening : (begun closed stored opened : D) (mid late : List ℕ)
      → CrashLeaves moment image_since begun closed (MayBeClosed span slot old)
      → IsClosed span slot old mid → CrashLeaves moment image_since closed stored (IsClosed span slot mid)
      → IsStored span slot body mid late → CrashLeaves moment image_since stored opened (MayBeOpen span slot body late)
      → CrashLeaves moment image_since begun opened (PutMayLeave span slot body old)
  disk_put_leaves_opening begun closed stored opened mid late first is second has third =
      CrashLeaves-trans moment image_since begun stored opened (PutMayLeave span slot body old)
      (disk_put_leaves_writing begun closed stored mid first is second)
      (CrashLeaves-weaker moment image_since stored opened (MayBeOpen span slot body late) (PutMayLeave span slot body old) third
      (λ image now. disk_put_may_leave_open span slot body old mid late image is has now))
