-- Worked examples of stores of two slots, most by computing.
use Rattle.std.proofs.Common.{◌≡◌, ◌⊎◌, ℕ, List, [], ◌∷◌, ◌++◌, length, Some, None, true, false, refl, sym, ap, ◌∙◌}
use Rattle.std.proofs.Common.{inl, inr, arith, zero, suc, slice_index}
use Rattle.slot_disk.specs.Recorded.{no_bytes}
use Rattle.slot_disk.specs.StoreLayout.{is_gate_open, slot_header, place_of_body, number_at}
use Rattle.slot_disk.specs.StoreLayout.{IsNumberRead}
use Rattle.slot_disk.specs.StoreLayout.{slot_body, Closed, Broken, Whole, slot_content}
use Rattle.slot_disk.specs.Slots.{KnownSlotsState, known_slot_open, after_opening, known_slots_of}
use Rattle.slot_disk.specs.Slots.{closed_known_slots, MatchesKnown}
use Rattle.slot_disk.specs.Putting.{closing_put, IsWhole, IsReadyForPut, FitsSlot}
use Rattle.slot_disk.specs.Putting.{CanClose, CanWrite, CanOpen, MayBeClosed, IsStored, MayBeOpen}
use Rattle.slot_disk.specs.Putting.{IsApartFrom, IsSameApart, PutMayLeave, IsPut, HoldsNewest}

-- a body of 9 bytes: its length, and a byte 5
abbrev body : List ℕ
body = 0 ∷ 0 ∷ 0 ∷ 0 ∷ 0 ∷ 0 ∷ 0 ∷ 9 ∷ 5 ∷ []

-- a store with a header of zero bytes and these gates, with the body in slot 0
abbrev store : ℕ → ℕ → List ℕ
store first second = first ∷ second ∷ (no_bytes 62 ++ body)

pub body_says_its_length : number_at 0 body ≡ 9
unfolding number_at
body_says_its_length = refl

pub body_fits_a_span_of_9 : FitsSlot 9 body
unfolding number_at
body_fits_a_span_of_9 = record { least = omega arith; most = omega arith; says = refl }

pub body_is_too_long_for_a_span_of_8 : FitsSlot 8 body → ⊥
body_is_too_long_for_a_span_of_8 is = omega (arith, is.most)

pub gate_is_open : is_gate_open 0 (store 1 0) ≡ true
gate_is_open = refl

pub gate_is_closed : is_gate_open 1 (store 1 0) ≡ false
gate_is_closed = refl

-- any byte but 1 is a closed gate
pub torn_gate_is_closed : is_gate_open 0 (store 255 0) ≡ false
torn_gate_is_closed = refl

pub header_follows_the_gates : slot_header (store 1 0) ≡ no_bytes 62
header_follows_the_gates = refl

pub second_body_comes_a_span_later : place_of_body 16 1 ≡ 80
second_body_comes_a_span_later = refl

pub body_is_stored : slot_body 16 0 (store 1 0) ≡ Some body
unfolding number_at
body_is_stored = refl

-- whether the gate is open or closed
pub body_is_stored_under_a_closed_gate : slot_body 16 0 (store 0 0) ≡ Some body
unfolding number_at
body_is_stored_under_a_closed_gate = refl

pub body_past_the_span_is_damaged : slot_body 8 0 (store 1 0) ≡ None
unfolding number_at
body_past_the_span_is_damaged = refl

pub body_past_the_end_is_damaged : slot_body 16 1 (store 0 1) ≡ None
unfolding number_at
body_past_the_end_is_damaged = refl

pub slot_is_whole : slot_content 16 0 (store 1 0) ≡ Whole body
unfolding number_at
slot_is_whole = refl

pub slot_is_closed : slot_content 16 0 (store 0 0) ≡ Closed
slot_is_closed = refl

pub slot_is_broken : slot_content 16 1 (store 0 1) ≡ Broken
unfolding number_at
slot_is_broken = refl

-- what is known of the store
pub first_is_known_open : known_slot_open (known_slots_of (store 1 0)) 0 ≡ true
first_is_known_open = refl

pub second_is_known_closed : known_slot_open (known_slots_of (store 1 0)) 1 ≡ false
second_is_known_closed = refl

pub second_was_opened : after_opening (known_slots_of (store 1 0)) 1 ≡ known_slots_of (store 1 1)
second_was_opened = refl

pub no_gate_is_open : known_slots_of (store 0 0) ≡ closed_known_slots (no_bytes 62)
no_gate_is_open = refl

pub stands_as_it_is : MatchesKnown (Some (store 1 0)) (λ image. image ≡ store 1 0) (known_slots_of (store 1 0))
stands_as_it_is bytes is =
    let same : store 1 0 ≡ bytes = cc is in
    record {
      long = omega (arith, ap length (sym same));
      slots_are = ap known_slots_of same;
      only = λ image was. was ∙ same;
    }

pub store_is_not_otherwise : MatchesKnown (Some (store 1 0)) (λ image. image ≡ store 1 0) (known_slots_of (store 0 0)) → ⊥
store_is_not_otherwise stands = cc (ap (λ (s : KnownSlotsState). s.first_open) (stands (store 1 0) refl).slots_are)

-- a put into slot 1 loses nothing, as slot 0 is whole
pub slot_1_may_be_put : IsReadyForPut 16 1 (store 1 0)
unfolding number_at
slot_1_may_be_put = record { other_holds = inl (body, refl); slot_holds = inr refl }

-- a put into slot 0 would lose the newest body
pub newest_may_not_be_put : IsReadyForPut 16 0 (store 1 0) → ⊥
unfolding number_at
newest_may_not_be_put ready = lost ready.other_holds
  where
    lost : IsWhole (slot_content 16 1 (store 1 0))
        ⊎ ((slot_content 16 1 (store 1 0) ≡ Closed) × (slot_content 16 0 (store 1 0) ≡ Closed)) → ⊥
    lost (inl whole) = let shut : Closed ≡ Whole whole.0 = whole.1 in cc shut
    lost (inr closed) = let open_slot : Whole body ≡ Closed = closed.1 in cc open_slot

-- an open gate is closed by writing a byte, a closed one by writing none
pub byte_closes : closing_put true ≡ 0 ∷ []
byte_closes = refl

pub nothing_keeps_closed : closing_put false ≡ []
nothing_keeps_closed = refl

-- the put of the body into slot 0 of the store with closed gates: before it, and after it
same_apart_before_the_put : IsSameApart 16 0 (store 0 0) (store 0 0)
same_apart_before_the_put = record {
  long = omega arith;
  no_shorter = omega arith;
  bytes = λ place within apart. refl;
  header = refl;
  other_slot = refl;
}

bytes_after_the_gate_stay : (place : ℕ) → IsApartFrom 16 0 place
    → slice_index (store 1 0) place ≡ slice_index (store 0 0) place
bytes_after_the_gate_stay zero apart = absurd (apart.0 refl)
bytes_after_the_gate_stay (suc place) apart = refl

same_apart_after_the_put : IsSameApart 16 0 (store 0 0) (store 1 0)
same_apart_after_the_put = record {
  long = omega arith;
  no_shorter = omega arith;
  bytes = λ place within apart. bytes_after_the_gate_stay place apart;
  header = refl;
  other_slot = refl;
}

pub before_the_put : PutMayLeave 16 0 body (store 0 0) (store 0 0)
before_the_put = record { beside = same_apart_before_the_put; slot_holds = inl refl }

pub after_the_put : IsPut 16 0 body (store 0 0) (store 1 0)
unfolding number_at
after_the_put = record { beside = same_apart_after_the_put; slot_holds = refl }

-- the put may not leave an image in which the other gate is open
pub other_gate_stays : PutMayLeave 16 0 body (store 0 0) (store 1 1) → ⊥
unfolding number_at
other_gate_stays may = let broken : Broken ≡ Closed = may.beside.other_slot in cc broken

-- nor one in which a byte past both slots, here of 4 bytes each, is another
pub bytes_past_both_slots_stay : (image : List ℕ) → PutMayLeave 4 0 body (store 0 0) image → slice_index image 72 ≡ 5
bytes_past_both_slots_stay image may =
    let past : 72 ≡ 0 → ⊥ = λ is. cc is in may.beside.bytes 72 (omega arith) (past, inr (omega arith))

pub number_is_read : IsNumberRead 64 (Some 9) (store 1 0)
unfolding number_at
number_is_read = (omega arith, refl)

pub number_past_the_end : IsNumberRead 80 None (store 1 0)
number_past_the_end = omega arith

-- the parts of that put: a gate that is closed already, a body that was written, a gate that is opened
pub closed_gate_may_be_closed : CanClose 16 0 false (store 0 0)
closed_gate_may_be_closed = record { long = omega arith; gate = refl; slot_holds = inr refl; other_holds = inr refl }

pub gate_stays_closed : MayBeClosed 16 0 (store 0 0) (store 0 0)
gate_stays_closed = record { beside = same_apart_before_the_put; slot_holds = inr refl }

pub body_may_be_written : CanWrite 16 0 (store 0 0)
body_may_be_written = record { long = omega arith; slot_holds = refl; other_holds = inr refl }

pub body_may_not_be_written_under_an_open_gate : CanWrite 16 0 (store 1 0) → ⊥
unfolding number_at
body_may_not_be_written_under_an_open_gate can = let whole : Whole body ≡ Closed = can.slot_holds in cc whole

pub body_was_stored : IsStored 16 0 body (store 0 0) (store 0 0)
unfolding number_at
body_was_stored = record {
  closed = record { beside = same_apart_before_the_put; slot_holds = refl };
  stored = refl;
}

pub gate_may_be_opened : CanOpen 16 0 body (store 0 0)
unfolding number_at
gate_may_be_opened = record { long = omega arith; slot_holds = refl; stored = refl; other_holds = inr refl }

pub gate_came_open : MayBeOpen 16 0 body (store 0 0) (store 1 0)
unfolding number_at
gate_came_open = record { beside = same_apart_after_the_put; slot_holds = inr refl }

-- of a store with no open gate a put may leave nothing, or the new body
pub new_body_stands : HoldsNewest 16 0 body (store 0 0) (store 1 0)
unfolding number_at
new_body_stands = inr (refl, inr refl)

pub old_body_stands : HoldsNewest 16 1 body (store 1 0) (store 1 0)
unfolding number_at
old_body_stands = inl (body, refl, refl)
