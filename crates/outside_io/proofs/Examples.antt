-- Worked examples of the definitions, most by computing.
use Rattle.std.proofs.Common.{ℕ, ◌≡◌, ◌-◌, ◌^◌, [], ◌∷◌, length, length-append, ap, None, Some, Ok, Err, true}
use Rattle.std.proofs.Common.{false, refl, arith}
use Rattle.outside_io.specs.Failed.{next_count, FaultRose, FailsByCount}
use Rattle.outside_io.specs.Writing.{IsBeginning, AppendsPart}
use Rattle.outside_io.specs.MemorySink.{SinkState, room_left, write_fails}
use Rattle.outside_io.specs.MemorySink.{accepted, sink_after_fault}
use Rattle.outside_io.specs.MemorySink.{sink_after}
use Rattle.outside_io.specs.MemorySource.{SourceState, call_fails, given}
use Rattle.outside_io.specs.MemorySource.{after_fault, source_after}

pub first_fault_is_counted : next_count 0 ≡ 1
first_fault_is_counted = refl

pub greatest_count_stays : next_count (2 ^ 64 - 1) ≡ 2 ^ 64 - 1
greatest_count_stays = refl

pub count_that_rose : FaultRose 3 4
count_that_rose = omega arith

-- a count at the greatest u64 counts as risen, although it is unchanged
pub greatest_count_rose : FaultRose (2 ^ 64 - 1) (2 ^ 64 - 1)
greatest_count_rose = omega arith

pub count_that_stays_did_not_rise : FaultRose 3 3 → ⊥
count_that_stays_did_not_rise rose = omega (arith, rose)

-- a call that failed with the third fault
pub call_that_failed : FailsByCount {T = ℕ} {E = ℕ} 2 3 (Err 7)
call_that_failed = record { later = omega arith; failed = omega arith; kept = tt }

pub call_that_went_well : FailsByCount {T = ℕ} {E = ℕ} 2 2 (Ok 7)
call_that_went_well = record { later = omega arith; failed = tt; kept = refl }

pub no_call_fails_without_a_fault : FailsByCount {T = ℕ} {E = ℕ} 2 2 (Err 7) → ⊥
no_call_fails_without_a_fault said = omega (arith, said.failed)

pub no_fault_is_hidden_by_an_answer : FailsByCount {T = ℕ} {E = ℕ} 2 3 (Ok 7) → ⊥
no_fault_is_hidden_by_an_answer said = omega (arith, said.kept)

pub beginning_of_a_list : IsBeginning {X = ℕ} (7 ∷ []) (7 ∷ 8 ∷ [])
beginning_of_a_list = (8 ∷ [], refl)

pub longer_list_begins_nothing_shorter : IsBeginning {X = ℕ} (7 ∷ 8 ∷ []) (7 ∷ []) → ⊥
longer_list_begins_nothing_shorter said = omega (arith, ap length said.1, length-append (7 ∷ 8 ∷ []) said.0)

-- of the text 7 8 a sink took only the 7, after the 1 that it held
pub text_cut_off : AppendsPart (Some (1 ∷ [])) (Some (1 ∷ 7 ∷ [])) (7 ∷ 8 ∷ [])
text_cut_off = record { front = 7 ∷ []; is_beginning = beginning_of_a_list; cut = omega arith; appended = refl }

-- where the bytes of a sink are unknown, all that is stated is that the text has a strict prefix
pub text_cut_off_untold : AppendsPart None None (7 ∷ 8 ∷ [])
text_cut_off_untold = record { front = 7 ∷ []; is_beginning = beginning_of_a_list; cut = omega arith; appended = tt }

pub empty_text_is_never_cut_off : AppendsPart (Some (1 ∷ [])) (Some (1 ∷ [])) [] → ⊥
empty_text_is_never_cut_off said = omega (arith, said.cut)

-- a sink with room for three bytes, which took two, and whose call number 4 fails
abbrev sink : SinkState
sink = record { taken = 1 ∷ 2 ∷ []; room = 3; fails = 4 ∷ []; calls = 3; faults = 0 }

pub room_that_is_left : room_left sink ≡ 1
room_that_is_left = refl

pub piece_that_fits_in_part : write_fails sink 5 ≡ false
piece_that_fits_in_part = refl

pub bytes_accepted : accepted sink 5 ≡ 1
bytes_accepted = refl

pub sink_after_a_byte : sink_after sink (7 ∷ 8 ∷ []) 1
    ≡ record { taken = 1 ∷ 2 ∷ 7 ∷ []; room = 3; fails = 4 ∷ []; calls = 4; faults = 0 }
sink_after_a_byte = refl

-- call number 4 fails, even for an empty piece
pub told_call_fails : write_fails (sink_after sink (7 ∷ 8 ∷ []) 1) 0 ≡ true
told_call_fails = refl

-- a full sink, none of whose calls is made to fail
abbrev full_sink : SinkState
full_sink = record { taken = 1 ∷ 2 ∷ 3 ∷ []; room = 3; fails = []; calls = 3; faults = 0 }

pub full_sink_fails : write_fails full_sink 1 ≡ true
full_sink_fails = refl

pub full_sink_takes_an_empty_piece : write_fails full_sink 0 ≡ false
full_sink_takes_an_empty_piece = refl

pub sink_with_one_fault : sink_after_fault sink
    ≡ record { taken = 1 ∷ 2 ∷ []; room = 3; fails = 4 ∷ []; calls = 4; faults = 1 }
sink_with_one_fault = refl

-- a source of three bytes that gives two at a time, and whose call number 0 fails
abbrev source : SourceState
source = record { left = 1 ∷ 2 ∷ 3 ∷ []; fails = 0 ∷ []; step = 2; calls = 0; faults = 0 }

pub first_call_fails : call_fails source ≡ true
first_call_fails = refl

pub source_with_one_fault : after_fault source
    ≡ record { left = 1 ∷ 2 ∷ 3 ∷ []; fails = 0 ∷ []; step = 2; calls = 1; faults = 1 }
source_with_one_fault = refl

pub second_call_gives : call_fails (after_fault source) ≡ false
second_call_gives = refl

pub bytes_given : given source 10 ≡ 2
bytes_given = refl

pub source_after_two_bytes : source_after source 2
    ≡ record { left = 3 ∷ []; fails = 0 ∷ []; step = 2; calls = 1; faults = 0 }
source_after_two_bytes = refl

-- only the one remaining byte is given, although the step and the room allow more
pub last_byte_given : given (source_after source 2) 10 ≡ 1
last_byte_given = refl
