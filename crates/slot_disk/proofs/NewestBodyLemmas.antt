-- The newest body in what a put may leave.
use Rattle.std.proofs.Common.{◌≡◌, ◌⊎◌, ℕ, List, inl, inr, ⊎_elim, ◌∙◌}
use Rattle.slot_disk.specs.StoreLayout.{slot_content, Closed, Whole}
use Rattle.slot_disk.specs.Putting.{IsReadyForPut, PutMayLeave, HoldsNewest}

-- a slot that was closed is closed, or has the new body
closed_or_newest_body : (span slot : ℕ) (body old image : List ℕ) → slot_content span slot old ≡ Closed → PutMayLeave span slot body old image
    → (slot_content span slot image ≡ Closed) ⊎ (slot_content span slot image ≡ Whole body)
closed_or_newest_body span slot body old image shut may = ⊎_elim (λ same. inl (same ∙ shut)) (λ new. new) may.slot_holds

pub newest_body_survives_put : (span slot : ℕ) (body old image : List ℕ) → IsReadyForPut span slot old → PutMayLeave span slot body old image
    → HoldsNewest span slot body old image
newest_body_survives_put span slot body old image ready may =
    ⊎_elim (λ whole. inl (whole.0, whole.1, may.beside.other_slot ∙ whole.1))
    (λ closed. inr (may.beside.other_slot ∙ closed.0, closed_or_newest_body span slot body old image closed.1 may)) ready.other_holds
