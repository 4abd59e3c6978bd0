-- Reading a capture of either format, by its first four bytes.
use Rattle.std.proofs.Common.{ℕ, ◌≡◌, ◌≤◌, ◌<◌, Bool, false, List, [], ◌∷◌, ◌++◌, length, Option, None, Some, IfSome, Result, Ok, Err}
use Rattle.std.proofs.Common.{refl, sym, ◌∙◌, arith, subst, inl, inr, append-nil}
use Rattle.std.proofs.lemmas.Bool.{ne_eqb, lt-ltb}
use Rattle.std.specs.Io.KnownBytes.{Consumes, IsAtEnd}
use Rattle.std.proofs.KnownBytes.{Consumes-trans, Consumes-whole}
use Rattle.pcap_frames.specs.{FrameValue, number_in_order, header_fault, header_fault_at, VisitorSees}
use Rattle.pcap_frames.specs.declared.fault.FaultKind.TheVariants.{ShortHeader}
use Rattle.pcap_frames.specs.declared.fault.ReadRefusal.{ReadRefusal}
use Rattle.pcap_frames.specs.declared.fault.ReadRefusal.TheVariants.{Capture, ReadFault, OutOfMemory}
use Rattle.pcap_frames.specs.{Format, IsDecided, HasFault, Completes, IsSeen, IsReadingOf}
use Rattle.pcapng_frames.specs.EitherFormat.{begins_as_pcapng, format_by_beginning, capture_format}
use Rattle.pcapng_frames.specs.FirstBytes.{ReadsFewer}
use Rattle.pcapng_frames.proofs.EitherFormatLemmas.{either_format_stays}

-- what holds of first bytes and what is left after them holds of all that was left before
either_reading_of_all : (left now : Option (List ℕ)) (first : List ℕ) (P : List ℕ → Type 0) → Consumes left now first
    → IfSome now (λ rest. P (first ++ rest)) → IfSome left P
either_reading_of_all None now first P consumed holds = tt
either_reading_of_all (Some xs) None first P consumed holds = absurd consumed
either_reading_of_all (Some xs) (Some ys) first P consumed holds = subst P (sym consumed) holds

either_reading_holds : (now : Option (List ℕ)) (P Q : List ℕ → Type 0) → ((rest : List ℕ) → P rest → Q rest) → IfSome now P
    → IfSome now Q
either_reading_holds None P Q gives holds = tt
either_reading_holds (Some rest) P Q gives holds = gives rest holds

-- ---- after four bytes

module _ (begins : Bool) (first : List ℕ) (four : 4 ≤ length first) (is : begins_as_pcapng first ≡ begins) where
  -- what the format says of bytes that begin so is said of captures of either format
  either_reading_says : (P : Format → List ℕ → Type 0) (rest : List ℕ) → P (format_by_beginning begins) (first ++ rest)
      → P (format_by_beginning (begins_as_pcapng (first ++ rest))) (first ++ rest)
  either_reading_says P rest said =
      subst (λ b. P (format_by_beginning b) (first ++ rest)) (sym (either_format_stays first rest four ∙ is)) said

  pub either_reading_goes_on : {V : Type 0} (represents : V → List FrameValue → Type 0) (seen saw : V)
      (left now after : Option (List ℕ)) (result : Result ℕ ReadRefusal) → Consumes left now first
      → IsSeen (format_by_beginning begins) first represents seen saw now after result
      → IsSeen capture_format [] represents seen saw left after result
  either_reading_goes_on represents seen saw left now after (Ok count) consumed shows = record {
    front = first ++ shows.front;
    frames = shows.frames;
    consumed = Consumes-trans left now after first shows.front consumed shows.consumed;
    counted = shows.counted;
    limit = shows.limit;
    are_frames = shows.are_frames;
    sees = shows.sees;
    capture =
        either_reading_of_all left now first _ consumed
        (either_reading_holds now _ _ (either_reading_says (λ format file. format.is_capture file shows.frames)) shows.capture);
    at_end = shows.at_end;
  }
  either_reading_goes_on represents seen saw left now after (Err (Capture fault)) consumed shows = record {
    front = first ++ shows.front;
    frames = shows.frames;
    consumed = Consumes-trans left now after first shows.front consumed shows.consumed;
    fault_of_front = either_reading_says (λ format file. format.has_fault_after file shows.frames fault) shows.front shows.fault_of_front;
    limit = shows.limit;
    are_frames = shows.are_frames;
    sees = shows.sees;
    fault_of_file =
        either_reading_of_all left now first _ consumed
        (either_reading_holds now _ _ (either_reading_says (λ format file. format.has_fault_after file shows.frames fault)) shows.fault_of_file);
    at_end = shows.at_end;
  }
  either_reading_goes_on represents seen saw left now after (Err ReadFault) consumed shows = record {
    front = first ++ shows.front;
    frames = shows.frames;
    consumed = Consumes-trans left now after first shows.front consumed shows.consumed;
    completes = either_reading_says (λ format file. Completes format file shows.frames) shows.front shows.completes;
    are_frames = shows.are_frames;
    sees = shows.sees;
  }
  either_reading_goes_on represents seen saw left now after (Err OutOfMemory) consumed shows = record {
    front = first ++ shows.front;
    all = shows.all;
    frames = shows.frames;
    consumed = Consumes-trans left now after first shows.front consumed shows.consumed;
    completes = either_reading_says (λ format file. Completes format file shows.all) shows.front shows.completes;
    begins = shows.begins;
    are_frames = shows.are_frames;
    sees = shows.sees;
  }

  pub either_reading_is_exact : (left now : Option (List ℕ)) (result : Result ℕ ReadRefusal) → Consumes left now first
      → IfSome now (λ rest. IsReadingOf (format_by_beginning begins) (first ++ rest) result)
      → IfSome left (λ file. IsReadingOf capture_format file result)
  either_reading_is_exact left now result consumed exact =
      either_reading_of_all left now first _ consumed (either_reading_holds now _ _ (of_result result) exact)
    where
      of_result : (result : Result ℕ ReadRefusal) (rest : List ℕ) → IsReadingOf (format_by_beginning begins) (first ++ rest) result
          → IsReadingOf capture_format (first ++ rest) result
      of_result (Ok count) rest reads =
          either_reading_says (λ format file. IsReadingOf format file (Ok count)) rest reads
      of_result (Err (Capture fault)) rest reads =
          either_reading_says (λ format file. IsReadingOf format file (Err (Capture fault))) rest reads
      of_result (Err ReadFault) rest reads = tt
      of_result (Err OutOfMemory) rest reads = tt

-- ---- fewer than four bytes

-- fewer than four bytes don't begin a pcapng capture
either_reading_is_classic : (bytes : List ℕ) → length bytes < 4 → begins_as_pcapng bytes ≡ false
unfolding number_in_order
either_reading_is_classic [] short = refl
either_reading_is_classic (a ∷ []) short = ne_eqb _ _ (λ same. omega (arith, same))
either_reading_is_classic (a ∷ b ∷ []) short = ne_eqb _ _ (λ same. omega (arith, same))
either_reading_is_classic (a ∷ b ∷ c ∷ []) short = ne_eqb _ _ (λ same. omega (arith, same))
either_reading_is_classic (a ∷ b ∷ c ∷ d ∷ more) short = absurd (omega (arith, short))

-- such a file has no whole header
either_reading_is_short : (bytes : List ℕ) → length bytes < 4
    → Format.has_fault_after capture_format bytes [] (header_fault_at ShortHeader (length bytes))
unfolding header_fault
either_reading_is_short bytes short =
    subst (λ b. Format.has_fault_after (format_by_beginning b) bytes [] (header_fault_at ShortHeader (length bytes)))
    (sym (either_reading_is_classic bytes short))
    (inr (inl (record {
      none_shown = rw (lt-ltb (length bytes) 4 short) refl;
      short = omega arith;
      none_before = refl;
      is_fault = refl;
    })))

module _ {V : Type 0} (represents : V → List FrameValue → Type 0) (visitor : V) where
  either_reading_shows_none : VisitorSees represents visitor visitor []
  either_reading_shows_none before sees = subst (represents visitor) (sym (append-nil before)) sees

  -- the source has ended before four bytes
  pub either_reading_ends_first : (left now : Option (List ℕ)) (bytes : List ℕ) (place : ℕ) → Consumes left now bytes
      → length bytes ≡ place → place < 4 → IsAtEnd now
      → IsSeen capture_format [] represents visitor visitor left now (Err (Capture (header_fault_at ShortHeader place)))
  either_reading_ends_first left now bytes place consumed is short end =
      let fault =
      subst (λ n. Format.has_fault_after capture_format bytes [] (header_fault_at ShortHeader n)) is
      (either_reading_is_short bytes (omega arith)) in record {
        front = bytes;
        frames = [];
        consumed = consumed;
        fault_of_front = fault;
        limit = omega arith;
        are_frames = tt;
        sees = either_reading_shows_none;
        fault_of_file = Consumes-whole left now bytes _ consumed end fault;
        at_end = λ ends. end;
      }

  -- a call of the source failed before four bytes
  pub either_reading_fails_first : (left now : Option (List ℕ)) → ReadsFewer 4 left now
      → IsSeen capture_format [] represents visitor visitor left now (Err ReadFault)
  either_reading_fails_first left now reads = record {
    front = reads.read;
    frames = [];
    consumed = reads.consumed;
    completes = inr (header_fault_at ShortHeader (length reads.read), either_reading_is_short reads.read reads.few);
    are_frames = tt;
    sees = either_reading_shows_none;
  }

pub either_reading_refuses_first : (left now : Option (List ℕ)) (bytes : List ℕ) (place : ℕ) → IsDecided capture_format
    → Consumes left now bytes → length bytes ≡ place → place < 4 → IsAtEnd now
    → IfSome left (λ file. IsReadingOf capture_format file (Err (Capture (header_fault_at ShortHeader place))))
either_reading_refuses_first left now bytes place laws consumed is short end =
    let fault : HasFault capture_format bytes (header_fault_at ShortHeader place) = (
      [],
      subst (λ n. Format.has_fault_after capture_format bytes [] (header_fault_at ShortHeader n)) is
          (either_reading_is_short bytes (omega arith)),
    ) in
    Consumes-whole left now bytes _ consumed end
    (fault, λ frames capture. laws.never_both bytes frames (header_fault_at ShortHeader place) capture fault)
