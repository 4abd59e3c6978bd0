-- Captures of either format.
use Rattle.std.proofs.Common.{ℕ, ◌≡◌, ◌≤◌, Bool, true, false, List, ◌++◌, length, refl, sym, subst, inl, inr}
use Rattle.std.proofs.lemmas.Bool.{cases_lt}
use Rattle.outside_io.specs.{IsBeginning}
use Rattle.pcap_frames.specs.{FrameValue, Format, IsDecided, Completes, classic}
use Rattle.pcap_frames.specs.declared.fault.CaptureFault.{CaptureFault}
use Rattle.pcap_frames.specs.declared.file_order.FileOrder.TheVariants.{Big}
use Rattle.pcapng_frames.specs.NgCapture.{pcapng}
use Rattle.pcapng_frames.specs.EitherFormat.{begins_as_pcapng, format_by_beginning, capture_format}
use Rattle.pcapng_frames.proofs.BlockNumberLemmas.{number_in_order-of_longer_block}

-- more bytes don't change the format
pub either_format_stays : (front more : List ℕ) → 4 ≤ length front → begins_as_pcapng (front ++ more) ≡ begins_as_pcapng front
either_format_stays front more four = rw (number_in_order-of_longer_block Big 4 0 front more four) refl

module _ (ng : IsDecided pcapng) (other : IsDecided classic) where
  -- the laws of the format of this file
  either_format_by_beginning : (begins : Bool) → IsDecided (format_by_beginning begins)
  either_format_by_beginning true = ng
  either_format_by_beginning false = other

  either_format_of : (file : List ℕ) → IsDecided (format_by_beginning (begins_as_pcapng file))
  either_format_of file = either_format_by_beginning (begins_as_pcapng file)

  either_format_completes_more : (front more : List ℕ) (frames others : List FrameValue)
      → Completes capture_format front frames → Completes capture_format (front ++ more) others
      → IsBeginning frames others
  either_format_completes_more front more frames others here there =
      let laws = either_format_of front in
      elim (cases_lt (length front) 4) [
        | inl short ↦ (others, rw (laws.no_frame_first front frames short here) refl)
        | inr four ↦
            laws.longer front more frames others here
            (subst (λ begins. Completes (format_by_beginning begins) (front ++ more) others)
            (either_format_stays front more four) there)
      ]

  either_format_shows_still : (front more : List ℕ) (frames : List FrameValue) (fault : CaptureFault)
      → Format.shows_fault capture_format front frames fault → Format.has_fault_after capture_format (front ++ more) frames fault
  either_format_shows_still front more frames fault shows =
      let laws = either_format_of front in
      elim (cases_lt (length front) 4) [
        | inl short ↦ absurd (laws.no_fault_first front frames fault short shows)
        | inr four ↦
            subst (λ begins. Format.has_fault_after (format_by_beginning begins) (front ++ more) frames fault)
            (sym (either_format_stays front more four)) (laws.shown front more frames fault shows)
      ]

  pub either_format_is_decided : IsDecided capture_format
  either_format_is_decided = record {
    either = λ file. IsDecided.either (either_format_of file) file;
    never_both = λ file. IsDecided.never_both (either_format_of file) file;
    one_list = λ file. IsDecided.one_list (either_format_of file) file;
    one_fault = λ file. IsDecided.one_fault (either_format_of file) file;
    one_before = λ file. IsDecided.one_before (either_format_of file) file;
    longer = either_format_completes_more;
    shown = either_format_shows_still;
    no_end_fault = λ front. IsDecided.no_end_fault (either_format_of front) front;
    no_frame_first = λ front. IsDecided.no_frame_first (either_format_of front) front;
    no_fault_first = λ front. IsDecided.no_fault_first (either_format_of front) front;
    limited = λ front. IsDecided.limited (either_format_of front) front;
    place = λ file. IsDecided.place (either_format_of file) file;
    are_frames = λ front. IsDecided.are_frames (either_format_of front) front;
  }
