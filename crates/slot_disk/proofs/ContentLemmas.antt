-- What gates, header and bodies are after a write.
use Rattle.std.specs.Prelude.{if◌then◌else◌}
use Rattle.std.proofs.Common.{◌≡◌, ◌≢◌, [], ◌∷◌, ◌⊎◌, ℕ, zero, suc, ◌+◌, ◌-◌, ◌<◌, ◌≤◌, List, length, take, drop, min}
use Rattle.std.proofs.Common.{Bool, true, false, Option, Some, None, refl, sym, ap, ◌∙◌, subst, inl, inr, ⊎_elim}
use Rattle.std.proofs.Common.{arith, get_or, eqb}
use Rattle.std.proofs.lemmas.Bool.Decides.{nat_tests}
use Rattle.std.proofs.lemmas.List.{take_all, length-drop, length-take, get_or-take, get_or-drop, ext_get_or}
use Rattle.slot_disk.specs.Images.{IsTornImage, IsTornFrom, IsWrittenImage, IsOnlyImage}
use Rattle.slot_disk.specs.StoreLayout.{front_bytes, is_gate_open, slot_header, number_at}
use Rattle.slot_disk.specs.StoreLayout.{place_of_body, body_is_whole, body_at}
use Rattle.slot_disk.specs.StoreLayout.{slot_body, slot_content, shown_in, SlotContent, Closed}
use Rattle.slot_disk.specs.StoreLayout.{Broken, Whole}
use Rattle.slot_disk.specs.Putting.{other_slot_of, closing_put, IsSoundSlots, FitsSlot, CanClose, CanWrite}
use Rattle.slot_disk.specs.Putting.{CanOpen, IsSameApart}
use Rattle.slot_disk.specs.Putting.{MayBeClosed, IsClosed, IsStored, MayBeOpen, IsPut}
use Rattle.slot_disk.proofs.StoredBodyLemmas.{stored_body_number_at_offset, stored_body_is_whole}

-- a range of a disk is untouched by a write where it lies before the write's range or after it
abbrev pub IsContentApart : ℕ → ℕ → ℕ → ℕ → Type 0
IsContentApart from to place count = (to ≤ place) ⊎ (place + count ≤ from)

-- a byte that is untouched
pub content_byte_stays : (place count k : ℕ) (old new : List ℕ) → IsTornImage place count old new → k < length old → IsContentApart k (k + 1) place count
    → get_or new k 0 ≡ get_or old k 0
content_byte_stays place count k old new torn within (inl before) = torn.before k (omega arith) within
content_byte_stays place count k old new torn within (inr after) = torn.after k after within

-- a range that is untouched
pub content_range_stays : (place count from n : ℕ) (old new : List ℕ) → IsTornImage place count old new → from + n ≤ length old
    → IsContentApart from (from + n) place count → take n (drop from new) ≡ take n (drop from old)
content_range_stays place count from n old new torn within apart =
    ext_get_or 0 (take n (drop from new)) (take n (drop from old))
    (omega (arith, length-take n (drop from new), length-take n (drop from old), length-drop from new, length-drop from old, torn.no_shorter))
    (λ i lt.
    let small : i < n = omega (arith, lt, length-take n (drop from new)) in
    get_or-take n (drop from new) i 0 small ∙ get_or-drop from new i 0
    ∙ content_byte_stays place count (from + i) old new torn (omega arith) (⊎_elim (λ before. inl (omega arith)) (λ after. inr (omega arith)) apart)
    ∙ sym (get_or-take n (drop from old) i 0 small ∙ get_or-drop from old i 0))

-- the header
pub content_header_stays : (place count : ℕ) (old new : List ℕ) → IsTornImage place count old new → front_bytes ≤ length old
    → IsContentApart 2 front_bytes place count → slot_header new ≡ slot_header old
content_header_stays place count old new torn long apart = content_range_stays place count 2 62 old new torn (omega arith) apart

-- the bytes at an offset are this body
pub record IsContentBody (span place : ℕ) (body image : List ℕ) : Type 0 where
  pub fits : place + length body ≤ length image
  pub least : 8 ≤ length body
  pub most : length body ≤ span
  pub says : number_at place image ≡ length body
  pub bytes : take (length body) (drop place image) ≡ body

content_passes_test : (test : Bool) (found body : List ℕ) → (if test then Some found else None) ≡ Some body → (test ≡ true) × (found ≡ body)
content_passes_test true found body is = (refl, cc)
content_passes_test false found body is = absurd (cc)

whole_content_has_head : (span place : ℕ) (image : List ℕ) → body_is_whole span place image ≡ true → place + 8 ≤ length image
whole_content_has_head span place image whole = grind (arith, nat_tests)

whole_content_is_least : (span place : ℕ) (image : List ℕ) → body_is_whole span place image ≡ true → 8 ≤ number_at place image
whole_content_is_least span place image whole = grind (arith, nat_tests)

whole_content_is_most : (span place : ℕ) (image : List ℕ) → body_is_whole span place image ≡ true → number_at place image ≤ span
whole_content_is_most span place image whole = grind (arith, nat_tests)

whole_content_is_within : (span place : ℕ) (image : List ℕ) → body_is_whole span place image ≡ true → place + number_at place image ≤ length image
whole_content_is_within span place image whole = grind (arith, nat_tests)

pub content_body_stands : (span place : ℕ) (body image : List ℕ) → body_at span place image ≡ Some body → IsContentBody span place body image
content_body_stands span place body image is =
    let n = number_at place image in
    let found = content_passes_test (body_is_whole span place image) (take n (drop place image)) body is in
    let within : place + n ≤ length image = whole_content_is_within span place image found.0 in
    let all : min n (length (drop place image)) ≡ n = omega (arith, length-drop place image, within) in
    let size : length body ≡ n = sym (ap length found.1) ∙ length-take n (drop place image) ∙ all in
    record {
      fits = omega (arith, size, within);
      least = omega (arith, size, whole_content_is_least span place image found.0);
      most = omega (arith, size, whole_content_is_most span place image found.0);
      says = sym size;
      bytes = ap (λ (m : ℕ). take m (drop place image)) size ∙ found.1;
    }

pub content_body_is_found : (span place : ℕ) (body image : List ℕ) → IsContentBody span place body image → body_at span place image ≡ Some body
content_body_is_found span place body image at =
    let whole : body_is_whole span place image ≡ true =
    stored_body_is_whole span place (length body) image (omega (arith, at.fits, at.least)) at.least at.most at.fits (sym at.says) in
    ap (λ (test : Bool). if test then Some (take (number_at place image) (drop place image)) else None) whole
    ∙ ap (λ (m : ℕ). Some (take m (drop place image))) at.says ∙ ap (λ (l : List ℕ). Some l) at.bytes

-- a body that is untouched
pub content_body_stays : (span place from count : ℕ) (body old new : List ℕ) → IsTornImage from count old new → IsContentApart place (place + span) from count
    → body_at span place old ≡ Some body → body_at span place new ≡ Some body
content_body_stays span place from count body old new torn apart was =
    let at = content_body_stands span place body old was in
    let same : take (length body) (drop place new) ≡ take (length body) (drop place old) =
    content_range_stays from count place (length body) old new torn at.fits (⊎_elim (λ before. inl (omega (arith, at.most))) (λ after. inr after) apart) in
    content_body_is_found span place body new (record {
      fits = omega (arith, at.fits, torn.no_shorter);
      least = at.least;
      most = at.most;
      says = stored_body_number_at_offset place place (length body) new old at.least same ∙ at.says;
      bytes = same ∙ at.bytes;
    })

-- what a slot holds, by its gate and its body
abbrev content_by_gate : Bool → Option (List ℕ) → SlotContent
content_by_gate gate stored = if gate then shown_in stored else Closed

content_by_gate-stays : (gate : Bool) (was is : Option (List ℕ)) → IsSoundSlots (content_by_gate gate was)
    → ((body : List ℕ) → was ≡ Some body → is ≡ Some body) → content_by_gate gate is ≡ content_by_gate gate was
content_by_gate-stays false was is sound keeps = refl
content_by_gate-stays true (Some body) is sound keeps = ap shown_in (keeps body refl)
content_by_gate-stays true None is (inl whole) keeps = let broken : Broken ≡ Whole whole.0 = whole.1 in absurd (cc broken)
content_by_gate-stays true None is (inr closed) keeps = let broken : Broken ≡ Closed = closed in absurd (cc broken)

content_by_gate-closed : (gate : Bool) (stored : Option (List ℕ)) → content_by_gate gate stored ≡ Closed → gate ≡ false
content_by_gate-closed false stored closed = refl
content_by_gate-closed true None closed = let broken : Broken ≡ Closed = closed in absurd (cc broken)
content_by_gate-closed true (Some body) closed = let whole : Whole body ≡ Closed = closed in absurd (cc whole)

-- under any gate a whole body stays, or is hidden
content_by_gate-torn : (gate : Bool) (was is : Option (List ℕ)) → IsSoundSlots (content_by_gate true was)
    → ((body : List ℕ) → was ≡ Some body → is ≡ Some body) → (content_by_gate gate is ≡ content_by_gate true was) ⊎ (content_by_gate gate is ≡ Closed)
content_by_gate-torn false was is sound keeps = inr refl
content_by_gate-torn true was is sound keeps = inl (content_by_gate-stays true was is sound keeps)

content_by_gate-either : (gate : Bool) (body : List ℕ) (is : Option (List ℕ)) → is ≡ Some body
    → (content_by_gate gate is ≡ Closed) ⊎ (content_by_gate gate is ≡ Whole body)
content_by_gate-either false body is stored = inl refl
content_by_gate-either true body is stored = inr (ap shown_in stored)

-- a slot whose gate and body are untouched
pub content_stays : (span slot : ℕ) (old new : List ℕ) → is_gate_open slot new ≡ is_gate_open slot old
    → IsSoundSlots (slot_content span slot old)
    → ((body : List ℕ) → slot_body span slot old ≡ Some body → slot_body span slot new ≡ Some body)
    → slot_content span slot new ≡ slot_content span slot old
content_stays span slot old new gate sound keeps =
    ap (λ (gate : Bool). content_by_gate gate (slot_body span slot new)) gate
    ∙ content_by_gate-stays (is_gate_open slot old) (slot_body span slot old) (slot_body span slot new) sound keeps

pub closed_content_has_closed_gate : (span slot : ℕ) (image : List ℕ) → slot_content span slot image ≡ Closed → is_gate_open slot image ≡ false
closed_content_has_closed_gate span slot image closed = content_by_gate-closed (is_gate_open slot image) (slot_body span slot image) closed

pub content_is_closed_by_gate : (span slot : ℕ) (image : List ℕ) → is_gate_open slot image ≡ false → slot_content span slot image ≡ Closed
content_is_closed_by_gate span slot image gate = ap (λ (gate : Bool). content_by_gate gate (slot_body span slot image)) gate

-- a gate that is untouched
content_gate_stays : (place count slot : ℕ) (old new : List ℕ) → IsTornImage place count old new → slot < length old
    → IsContentApart slot (slot + 1) place count → is_gate_open slot new ≡ is_gate_open slot old
content_gate_stays place count slot old new torn within apart =
    ap (λ (byte : ℕ). eqb byte 1) (content_byte_stays place count slot old new torn within apart)

-- bodies follow the front
content_follows_front : (span slot : ℕ) → front_bytes ≤ place_of_body span slot
content_follows_front span zero = omega arith
content_follows_front span (suc slot) = omega arith

-- the other gate is another byte
content_gates_are_apart : (slot count : ℕ) → slot < 2 → count ≤ 1 → IsContentApart (other_slot_of slot) (other_slot_of slot + 1) slot count
content_gates_are_apart zero count small short = inr (omega arith)
content_gates_are_apart (suc slot) count small short = inl (omega arith)

content_other_slot_is_small : (slot : ℕ) → other_slot_of slot < 2
content_other_slot_is_small zero = omega arith
content_other_slot_is_small (suc slot) = omega arith

-- each other byte than the gate is apart from what is written there
content_other_byte_is_apart : (slot count place : ℕ) → place ≢ slot → count ≤ 1 → IsContentApart place (place + 1) slot count
content_other_byte_is_apart slot count place other short = grind arith

-- all but a slot is as before when its gate is written
content_beside_gate_stays : (span slot count : ℕ) (old image : List ℕ) → slot < 2 → count ≤ 1 → front_bytes ≤ length old
    → IsTornImage slot count old image → IsSoundSlots (slot_content span (other_slot_of slot) old) → IsSameApart span slot old image
content_beside_gate_stays span slot count old image small short long torn sound = record {
  long = omega (arith, torn.no_shorter, long);
  no_shorter = torn.no_shorter;
  bytes = λ place within apart.
      content_byte_stays slot count place old image torn within (content_other_byte_is_apart slot count place apart.0 short);
  header = content_header_stays slot count old image torn long (inr (omega arith));
  other_slot =
      content_stays span (other_slot_of slot) old image
      (content_gate_stays slot count (other_slot_of slot) old image torn (omega (arith, content_other_slot_is_small slot, long))
      (content_gates_are_apart slot count small short)) sound
      (λ body was. content_body_stays span (place_of_body span (other_slot_of slot)) slot count body old image torn
      (inr (omega (arith, content_follows_front span (other_slot_of slot)))) was);
}

-- the two bodies are apart
content_bodies_are_apart : (span slot count : ℕ) → slot < 2 → count ≤ span
    → IsContentApart (place_of_body span (other_slot_of slot)) (place_of_body span (other_slot_of slot) + span)
    (place_of_body span slot) count
content_bodies_are_apart span zero count small fits = inr (omega arith)
content_bodies_are_apart span (suc slot) count small fits = inl (omega arith)

-- all but a slot is as before when its body is written
content_beside_body_stays : (span slot count : ℕ) (old image : List ℕ) → slot < 2 → count ≤ span → front_bytes ≤ length old
    → IsTornImage (place_of_body span slot) count old image → IsSoundSlots (slot_content span (other_slot_of slot) old)
    → IsSameApart span slot old image
content_beside_body_stays span slot count old image small fits long torn sound = record {
  long = omega (arith, torn.no_shorter, long);
  no_shorter = torn.no_shorter;
  bytes = λ place within apart.
      content_byte_stays (place_of_body span slot) count place old image torn within
      (⊎_elim (λ before. inl (omega arith)) (λ after. inr (omega (arith, fits))) apart.1);
  header = content_header_stays (place_of_body span slot) count old image torn long (inl (content_follows_front span slot));
  other_slot =
      content_stays span (other_slot_of slot) old image
      (content_gate_stays (place_of_body span slot) count (other_slot_of slot) old image torn (omega (arith, content_other_slot_is_small slot, long))
      (inl (omega (arith, content_follows_front span slot, content_other_slot_is_small slot)))) sound
      (λ body was.
      content_body_stays span (place_of_body span (other_slot_of slot)) (place_of_body span slot) count body old image torn
      (content_bodies_are_apart span slot count small fits) was);
}

-- the body of a slot is as before when its gate is written
content_own_body_stays : (span slot count : ℕ) (body old image : List ℕ) → slot < 2 → count ≤ 1 → IsTornImage slot count old image
    → slot_body span slot old ≡ Some body → slot_body span slot image ≡ Some body
content_own_body_stays span slot count body old image small short torn was =
    content_body_stays span (place_of_body span slot) slot count body old image torn (inr (omega (arith, content_follows_front span slot))) was

-- a gate that is being closed
pub content_while_gate_closes : (span slot : ℕ) (known : Bool) (old image : List ℕ) → slot < 2 → CanClose span slot known old
    → IsTornImage slot (length (closing_put known)) old image → MayBeClosed span slot old image
content_while_gate_closes span slot true old image small can torn = record {
  beside = content_beside_gate_stays span slot 1 old image small (omega arith) can.long torn can.other_holds;
  slot_holds =
      let same : slot_content span slot old ≡ content_by_gate true (slot_body span slot old) = ap
      (λ (gate : Bool). content_by_gate gate (slot_body span slot old)) can.gate in
      let torn_gate = content_by_gate-torn (is_gate_open slot image) (slot_body span slot old) (slot_body span slot image)
      (subst IsSoundSlots same can.slot_holds) (λ body was. content_own_body_stays span slot 1 body old image small (omega arith) torn was) in
      ⊎_elim (λ kept. inl (kept ∙ sym same)) (λ shut. inr shut) torn_gate;
}
content_while_gate_closes span slot false old image small can torn = record {
  beside = content_beside_gate_stays span slot 0 old image small (omega arith) can.long torn can.other_holds;
  slot_holds = inl (content_stays span slot old image
      (content_gate_stays slot 0 slot old image torn (omega (arith, can.long)) (inr (omega arith))) can.slot_holds
      (λ body was. content_own_body_stays span slot 0 body old image small (omega arith) torn was));
}

-- a gate that was closed
pub content_once_gate_is_closed : (span slot : ℕ) (known : Bool) (old new : List ℕ) → slot < 2 → CanClose span slot known old
    → IsWrittenImage slot (closing_put known) old new → IsClosed span slot old new
content_once_gate_is_closed span slot true old new small can written = record {
  beside = content_beside_gate_stays span slot 1 old new small (omega arith) can.long written.torn can.other_holds;
  slot_holds = content_is_closed_by_gate span slot new (ap (λ (byte : ℕ). eqb byte 1) (
      ap (λ (k : ℕ). get_or new k 0) (let e : slot ≡ slot + 0 = omega arith in e) ∙ written.range 0 (omega arith)));
}
content_once_gate_is_closed span slot false old new small can written = record {
  beside = content_beside_gate_stays span slot 0 old new small (omega arith) can.long written.torn can.other_holds;
  slot_holds = content_is_closed_by_gate span slot new (
      content_gate_stays slot 0 slot old new written.torn (omega (arith, can.long)) (inr (omega arith)) ∙ can.gate);
}

-- a body that is being written
pub content_while_body_is_written : (span slot count : ℕ) (old image : List ℕ) → slot < 2 → count ≤ span → CanWrite span slot old
    → IsTornImage (place_of_body span slot) count old image → IsClosed span slot old image
content_while_body_is_written span slot count old image small fits can torn = record {
  beside = content_beside_body_stays span slot count old image small fits can.long torn can.other_holds;
  slot_holds = content_is_closed_by_gate span slot image (
      content_gate_stays (place_of_body span slot) count slot old image torn (omega (arith, can.long))
      (inl (omega (arith, content_follows_front span slot)))
      ∙ closed_content_has_closed_gate span slot old can.slot_holds);
}

-- a body that was written
pub content_once_body_is_written : (span slot : ℕ) (body old new : List ℕ) → slot < 2 → FitsSlot span body → CanWrite span slot old
    → IsWrittenImage (place_of_body span slot) body old new → IsStored span slot body old new
content_once_body_is_written span slot body old new small is can written =
    let place = place_of_body span slot in
    let fits : place + length body ≤ length new = omega (arith, written.fits (length body - 1) (omega (arith, is.least)), is.least) in
    let same : take (length body) (drop place new) ≡ body =
    ext_get_or 0 (take (length body) (drop place new)) body
    (omega (arith, length-take (length body) (drop place new), length-drop place new, fits))
    (λ i lt.
    let within : i < length body = omega (arith, lt, length-take (length body) (drop place new)) in
    get_or-take (length body) (drop place new) i 0 within ∙ get_or-drop place new i 0 ∙ written.range i within) in
    record {
      closed = content_while_body_is_written span slot (length body) old new small is.most can written.torn;
      stored = content_body_is_found span place body new (record {
        fits = fits;
        least = is.least;
        most = is.most;
        says = stored_body_number_at_offset place 0 (length body) new body is.least (same ∙ sym (take_all (length body) body (omega arith))) ∙ is.says;
        bytes = same;
      });
    }

-- a gate that is being opened
pub content_while_gate_opens : (span slot : ℕ) (body old image : List ℕ) → slot < 2 → CanOpen span slot body old → IsTornImage slot 1 old image
    → MayBeOpen span slot body old image
content_while_gate_opens span slot body old image small can torn = record {
  beside = content_beside_gate_stays span slot 1 old image small (omega arith) can.long torn can.other_holds;
  slot_holds =
      content_by_gate-either (is_gate_open slot image) body (slot_body span slot image)
      (content_own_body_stays span slot 1 body old image small (omega arith) torn can.stored);
}

-- a gate that was opened
pub content_once_gate_is_open : (span slot : ℕ) (body old new : List ℕ) → slot < 2 → CanOpen span slot body old
    → IsWrittenImage slot (1 ∷ []) old new → IsPut span slot body old new
content_once_gate_is_open span slot body old new small can written =
    let gate : is_gate_open slot new ≡ true = ap (λ (byte : ℕ). eqb byte 1) (
    ap (λ (k : ℕ). get_or new k 0) (let e : slot ≡ slot + 0 = omega arith in e) ∙ written.range 0 (omega arith)) in
    record {
      beside = content_beside_gate_stays span slot 1 old new small (omega arith) can.long written.torn can.other_holds;
      slot_holds =
          ap (λ (gate : Bool). content_by_gate gate (slot_body span slot new)) gate
          ∙ ap shown_in (content_own_body_stays span slot 1 body old new small (omega arith) written.torn can.stored);
    }

-- a write that is cut short starts from the only image
pub content_torn_from_only : (possible : List ℕ → Type 0) (place count : ℕ) (old image : List ℕ) → IsOnlyImage old possible
    → IsTornFrom possible place count image → IsTornImage place count old image
content_torn_from_only possible place count old image only torn =
    subst (λ (from : List ℕ). IsTornImage place count from image) (only torn.0 torn.1) torn.2
