-- Two splits of a file into frames, and a split when more bytes follow.
use Rattle.std.proofs.Common.{ℕ, ◌≡◌, ◌+◌, ◌-◌, ◌≤◌, Some, List, [], ◌∷◌, ◌++◌, length, drop, refl, sym, ap, ◌∙◌}
use Rattle.std.proofs.Common.{arith, length-append, subst, inl, inr, ◌⊎◌, append-nil}
use Rattle.std.proofs.lemmas.List.{drop-append-le, nil_from_length}
use Rattle.pcap_frames.specs.declared.file_order.FileOrder.{FileOrder}
use Rattle.pcap_frames.specs.declared.fault.CaptureFault.{CaptureFault}
use Rattle.pcap_frames.specs.Frame.{FrameValue}
use Rattle.pcap_frames.specs.Frame.{BeginsWithFrame, BeginsWithFrames, frame_fault}
use Rattle.pcap_frames.specs.Capture.{SplitsCapture}
use Rattle.pcap_frames.specs.CaptureFault.{ShowsFault}
use Rattle.pcap_frames.proofs.FileHeaderLemmas.{IsHeader-in_longer_file, file_header_fault_stays}
use Rattle.pcap_frames.proofs.BeginsFrameLemmas.{BeginsWithFrames-append, frame_fault-begins_longer_rest}

-- a split stays when more bytes follow, which belong to its rest
pub SplitsCapture-longer_file : (bytes more : List ℕ) (order : FileOrder) (frames : List FrameValue) (rest : List ℕ)
    → SplitsCapture bytes order frames rest → SplitsCapture (bytes ++ more) order frames (rest ++ more)
SplitsCapture-longer_file bytes more order frames rest splits = record {
  header = IsHeader-in_longer_file order bytes more splits.header;
  begins =
      rw (drop-append-le 24 bytes more splits.header.whole)
      (BeginsWithFrames-append order (drop 24 bytes) frames rest more splits.begins);
  limit = splits.limit;
}

-- the rest keeps its offset when more bytes follow
pub split_place_in_longer_file : (bytes rest more : List ℕ)
    → length (bytes ++ more) - length (rest ++ more) ≡ length bytes - length rest
split_place_in_longer_file bytes rest more = omega (arith, length-append bytes more, length-append rest more)

-- a fault that is shown stays when more bytes follow
pub ShowsFault-longer_split_file : (bytes more : List ℕ) (frames : List FrameValue) (fault : CaptureFault)
    → ShowsFault bytes frames fault → ShowsFault (bytes ++ more) frames fault
ShowsFault-longer_split_file bytes more frames fault (inl shows) = inl (record {
  shown = file_header_fault_stays bytes more fault shows.shown;
  none_before = shows.none_before;
})
ShowsFault-longer_split_file bytes more frames fault (inr shows) = inr (record {
  order = shows.order;
  rest = shows.rest ++ more;
  splits = SplitsCapture-longer_file bytes more shows.order frames shows.rest shows.splits;
  shown =
      subst (λ place. frame_fault shows.order (length frames) place (shows.rest ++ more) ≡ Some fault)
      (sym (split_place_in_longer_file bytes shows.rest more))
      (frame_fault-begins_longer_rest shows.order (length frames) _ shows.rest more fault shows.shown);
})

-- no frame begins the rest, or there are as many as the limit allows
abbrev pub IsLastFileSplit : FileOrder → ℕ → List FrameValue → List ℕ → Type 0
IsLastFileSplit order limit frames rest = ((frame : FrameValue) → BeginsWithFrame order rest frame → ⊥) ⊎ (limit ≤ length frames)

-- frames that begin the bytes begin each list of frames that is the last
pub last_file_split_begins : (order : FileOrder) (bytes : List ℕ) (limit : ℕ) (frames others : List FrameValue)
    (rest last : List ℕ)
    → BeginsWithFrames order bytes frames rest → BeginsWithFrames order bytes others last → length frames ≤ limit
    → IsLastFileSplit order limit others last
    → (more : List FrameValue) × (others ≡ frames ++ more) × BeginsWithFrames order rest more last
last_file_split_begins order bytes limit [] others rest last here there fits is_last =
    (others, refl, subst (λ l. BeginsWithFrames order l others last) (sym here) there)
last_file_split_begins order bytes limit (frame ∷ frames) [] rest last here there fits (inl none) =
    absurd (none frame (subst (λ l. BeginsWithFrame order l frame) (sym there) here.0))
last_file_split_begins order bytes limit (frame ∷ frames) [] rest last here there fits (inr full) = absurd (omega arith)
last_file_split_begins order bytes limit (frame ∷ frames) (other ∷ others) rest last here there fits is_last =
    let same : other ≡ frame = there.0.is_frame ∙ sym here.0.is_frame in
    let behind = last_file_split_begins order (drop (16 + frame.captured) bytes) (limit - 1) frames others rest last here.1
    (subst (λ (f : FrameValue). BeginsWithFrames order (drop (16 + f.captured) bytes) others last) same there.1)
    (omega arith)
    (elim is_last [ inl none ↦ inl none | inr full ↦ inr (omega arith) ]) in
    let joined : other ∷ others ≡ (frame ∷ frames) ++ behind.0 =
    ap (λ f. f ∷ others) same ∙ ap (λ l. frame ∷ l) behind.1 in
    (behind.0, joined, behind.2)

-- two lists that are the last and begin the same bytes are the same, and so are their rests
pub last_file_split_is_one : (order : FileOrder) (bytes : List ℕ) (limit : ℕ) (frames others : List FrameValue)
    (rest last : List ℕ)
    → BeginsWithFrames order bytes frames rest → BeginsWithFrames order bytes others last → length frames ≤ limit
    → length others ≤ limit
    → IsLastFileSplit order limit frames rest → IsLastFileSplit order limit others last → (others ≡ frames) × (last ≡ rest)
last_file_split_is_one order bytes limit frames others rest last here there fits fits_too is_last is_last_too =
    let more = last_file_split_begins order bytes limit frames others rest last here there fits is_last_too in
    let less = last_file_split_begins order bytes limit others frames last rest there here fits_too is_last in
    let longer : length others ≡ length frames + length more.0 = ap length more.1 ∙ length-append frames more.0 in
    let shorter : length frames ≡ length others + length less.0 = ap length less.1 ∙ length-append others less.0 in
    let none : more.0 ≡ [] = nil_from_length more.0 (omega arith) in
    (more.1 ∙ ap (λ l. frames ++ l) none ∙ append-nil frames, subst (λ l. BeginsWithFrames order rest l last) none more.2)
