-- The first put into a store with both gates closed.
use Rattle.std.proofs.Common.{◌≡◌, ◌∙◌, ℕ, List, Bool, true, Option, None, Some, refl, sym, ap, inl, inr}
use Rattle.std.specs.Prelude.{is_some, if◌then◌else◌}
use Rattle.slot_disk.specs.{IsPut, IsReadyForPut, IsStoreOfKnown, KnownSlotsState, closed_known_slots}
use Rattle.slot_disk.specs.{Closed, slot_body, slot_content, shown_in}

-- what was known before the put, if something was
pub first_put_finds_some : {X : Type 0} (found : Option X) → is_some found ≡ true → (x : X) × (found ≡ Some x)
first_put_finds_some {X} None is = absurd (cc is)
first_put_finds_some {X} (Some x) is = (x, refl)

-- the second slot holds nothing before it
first_put_finds_closed : (span : ℕ) (bytes header : List ℕ) (possible : List ℕ → Type 0)
    → IsStoreOfKnown bytes possible (closed_known_slots header) → slot_content span 1 bytes ≡ Closed
first_put_finds_closed span bytes header possible store =
    ap (λ (gate : Bool). if gate then shown_in (slot_body span 1 bytes) else Closed)
    (sym (ap (λ (s : KnownSlotsState). s.second_open) store.slots_are))

-- after a put into slot 0 the store is ready for a put into slot 1
pub second_slot_is_ready_after_first_put : (span : ℕ) (body old new header : List ℕ) (possible : List ℕ → Type 0)
    → IsStoreOfKnown old possible (closed_known_slots header) → IsPut span 0 body old new → IsReadyForPut span 1 new
second_slot_is_ready_after_first_put span body old new header possible store put = record {
  other_holds = inl (body, put.slot_holds);
  slot_holds = inr (put.beside.other_slot ∙ first_put_finds_closed span old header possible store);
}
