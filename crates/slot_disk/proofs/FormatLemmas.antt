-- The front of a store that was made.
use Rattle.std.proofs.Common.{◌≡◌, ℕ, ◌+◌, ◌<◌, ◌≤◌, List, ◌∷◌, length, drop, false, sym, ap, ◌∙◌, arith, get_or, eqb}
use Rattle.std.proofs.lemmas.List.{length-drop, length-take, get_or-take, get_or-drop, ext_get_or}
use Rattle.slot_disk.specs.Images.{IsWrittenImage, IsOnlyImage}
use Rattle.slot_disk.specs.StoreLayout.{is_gate_open, slot_header}
use Rattle.slot_disk.specs.Slots.{IsStoreOfKnown, closed_known_slots}

pub format_leaves_closed_slots : (header old new : List ℕ) (possible : List ℕ → Type 0) → length header ≡ 62
    → IsWrittenImage 0 (0 ∷ 0 ∷ header) old new → IsOnlyImage new possible → IsStoreOfKnown new possible (closed_known_slots header)
format_leaves_closed_slots header old new possible size written only =
    let long : 64 ≤ length new = omega (arith, written.fits 63 (omega (arith, size))) in
    let first : is_gate_open 0 new ≡ false = ap (λ (byte : ℕ). eqb byte 1) (written.range 0 (omega (arith, size))) in
    let second : is_gate_open 1 new ≡ false = ap (λ (byte : ℕ). eqb byte 1) (written.range 1 (omega (arith, size))) in
    let rest : slot_header new ≡ header =
    ext_get_or 0 (slot_header new) header (omega (arith, size, length-take 62 (drop 2 new), length-drop 2 new, long))
    (λ i lt.
    let small : i < 62 = omega (arith, lt, length-take 62 (drop 2 new)) in
    get_or-take 62 (drop 2 new) i 0 small ∙ get_or-drop 2 new i 0
    ∙ ap (λ (k : ℕ). get_or new k 0) (let e : 2 + i ≡ 0 + (2 + i) = omega arith in e)
    ∙ written.range (2 + i) (omega (arith, size))
    ∙ sym (get_or-drop 2 (0 ∷ 0 ∷ header) i 0)) in
    record {
      long = long;
      slots_are = λ i. record { first_open = sym first i; second_open = sym second i; header = sym rest i };
      only = only;
    }
