-- What a file gives, or why it is refused, with and without the front of a cut capture.
use Rattle.std.proofs.Common.{◌≡◌, ◌⊎◌, inl, inr, ℕ, Bool, true, false, List, [], Option, Some, None, refl, sym, ap, ◌∙◌, subst}
use Rattle.std.proofs.Common.{◌≤◌, ◌<◌, ◌^◌, length, Result, Ok, Err, IfSome, IfOk, OnOk, arith}
use Rattle.std.proofs.lemmas.Bool.{cases_Bool}
use Rattle.pcap_frames.specs.declared.fault.CaptureFault.{CaptureFault}
use Rattle.pcap_frames.specs.{FrameValue, Format, HasFault, IsDecided, frame_count_limit}
use Rattle.pcap_frames.specs.{IsSeen, ShowsBeforeFault}
use Rattle.pcap_frames.specs.declared.fault.ReadRefusal.{ReadRefusal}
use Rattle.pcap_frames.specs.declared.fault.ReadRefusal.TheVariants.{Capture}
use Rattle.pcapng_frames.specs.{capture_format}
use Rattle.frame_records.specs.CaptureFile.{FileHasFrames, FileGives, is_cut_off, IsFrontOf, IsRefusedFile}
use Rattle.frame_records.specs.Records.{HasRecords}
use Rattle.frame_records.specs.RecordVisitor.{KeepsRecordsOf}
use Rattle.frame_records.specs.declared.weigh.Weigh.{Weigh}
use Rattle.frame_records.specs.declared.records.Records.{Records}
use Rattle.frame_records.proofs.RecordVisitorLemmas.{record_visitor_counts_exactly, visitor_records_are_few}

-- what the visitor saw of a capture that is refused
pub front_seen_before_fault : {V : Type 0} (represents : V → List FrameValue → Type 0) (seen saw : V)
    (left now : Option (List ℕ)) (refusal : ReadRefusal) (fault : CaptureFault) → refusal ≡ Capture fault
    → IsSeen capture_format [] represents seen saw left now (Err refusal)
    → ShowsBeforeFault capture_format [] represents seen saw left now fault
front_seen_before_fault represents seen saw left now refusal fault is shows =
    subst (λ r. IsSeen capture_format [] represents seen saw left now (Err r)) is shows

-- a fault of a kind that cuts a capture is the cut at its place
pub front_ends_at_cut_fault : (file : List ℕ) (frames : List FrameValue) (fault : CaptureFault) → is_cut_off fault.kind ≡ true
    → Format.has_fault_after capture_format file frames fault → IsFrontOf file frames fault.place
front_ends_at_cut_fault file frames fault cut first = record { fault = fault; first = first; cut = cut; place_is = refl }

-- what is known of the bytes of a capture that is cut
front_is_told : (front : Bool) (left : Option (List ℕ)) (frames : List FrameValue) (fault : CaptureFault) → front ≡ true
    → is_cut_off fault.kind ≡ true → IfSome left (λ file. Format.has_fault_after capture_format file frames fault)
    → IfSome left (λ file. FileGives front file frames (Some fault.place))
front_is_told front None frames fault asked cut first = tt
front_is_told front (Some file) frames fault asked cut first = (asked, front_ends_at_cut_fault file frames fault cut first)

-- the records of a whole capture, whether or not the front of a cut one was asked for
pub front_records_of_whole_capture : (weigh : Weigh) (front : Bool) (left : Option (List ℕ)) (frames : List FrameValue) (records : Records)
    → length frames ≤ 16777216 → KeepsRecordsOf weigh frames records → IfSome left (λ file. FileHasFrames file frames)
    → HasRecords weigh front left records
front_records_of_whole_capture weigh front left frames records few kept capture = record {
  frames = frames;
  few = few;
  told = subst (λ cut. IfSome left (λ file. FileGives front file frames cut)) (sym kept.cut) capture;
  whole = λ asked. kept.cut;
  are = record_visitor_counts_exactly weigh frames records few kept;
}

-- the records up to a cut
pub front_records_up_to_cut : (weigh : Weigh) (front : Bool) (left : Option (List ℕ)) (frames : List FrameValue) (fault : CaptureFault)
    (records : Records) (result : Result Records ReadRefusal)
    → length frames ≤ 16777216 → KeepsRecordsOf weigh frames records → IfSome left (λ file. Format.has_fault_after capture_format file frames fault)
    → IfOk result (λ taken. taken ≡ record records { cut = Some fault.place }) → OnOk result (front ≡ true)
    → OnOk result (is_cut_off fault.kind ≡ true) → IfOk result (HasRecords weigh front left)
front_records_up_to_cut weigh front left frames fault records (Err refusal) few kept after is asked cut = tt
front_records_up_to_cut weigh front left frames fault records (Ok taken) few kept after is asked cut =
    let are = record_visitor_counts_exactly weigh frames records few kept in
    subst (HasRecords weigh front left) (sym is) (record {
      frames = frames;
      few = few;
      told = front_is_told front left frames fault asked cut after;
      whole = λ (not_asked : front ≡ false). cc;
      are = record { list = are.list; frames = are.frames; not_ipv4 = are.not_ipv4; short = are.short; bad_header = are.bad_header };
    })

-- they are few where the frames are few
pub front_records_are_few : (weigh : Weigh) (frames : List FrameValue) (place : ℕ) (records : Records)
    (result : Result Records ReadRefusal) → length frames ≤ 16777216 → KeepsRecordsOf weigh frames records
    → IfOk result (λ taken. taken ≡ record records { cut = Some place }) → IfOk result (λ taken. length taken.list ≤ 16777216)
front_records_are_few weigh frames place records (Err refusal) few kept is = tt
front_records_are_few weigh frames place records (Ok taken) few kept is =
    omega (arith, ap (λ r. length r.list) is, visitor_records_are_few weigh frames records few kept)

-- either the file gives frames or it is refused
abbrev IsFrontDecided : Bool → List ℕ → Type 0
IsFrontDecided front file = ((frames : List FrameValue) × (cut : Option ℕ) × FileGives front file frames cut)
    ⊎ ((fault : CaptureFault) × IsRefusedFile front file fault)

pub front_is_decided : (front : Bool) (file : List ℕ)
    → ((frames : List FrameValue) × FileHasFrames file frames) ⊎ ((fault : CaptureFault) × HasFault capture_format file fault)
    → IsFrontDecided front file
front_is_decided front file (inl (frames, is)) = inl (frames, None, is)
front_is_decided false file (inr (fault, has)) = inr (fault, record { first = has; no_front = λ (asked : false ≡ true) cut. cc })
front_is_decided true file (inr (fault, has)) = elim (cases_Bool (is_cut_off fault.kind)) [
  | inl cut ↦ inl (has.0, Some fault.place, (refl, front_ends_at_cut_fault file has.0 fault cut has.1))
  | inr other ↦ inr (fault, record { first = has; no_front = λ asked cut. cc })
]

module _ (laws : IsDecided capture_format) where
  -- no more frames are before a cut than in a capture, and its place is a number of 64 bits
  pub front_is_limited : (front : Bool) (file : List ℕ) (frames : List FrameValue) (cut : Option ℕ) → FileGives front file frames cut
      → (length frames ≤ frame_count_limit) × IfSome cut (λ place. place < 2 ^ 64)
  front_is_limited front file frames None gives = (laws.limited file frames (inl gives), tt)
  front_is_limited front file frames (Some place) (asked, front_of) =
      let fault = front_of.fault in
      let first = front_of.first in (
        laws.limited file frames (inr (fault, first)),
        omega (arith, front_of.place_is, laws.place file frames fault first),
      )

  -- a file that gives frames isn't refused
  pub front_is_not_refused : (front : Bool) (file : List ℕ) (frames : List FrameValue) (cut : Option ℕ) (fault : CaptureFault)
      → FileGives front file frames cut → IsRefusedFile front file fault → ⊥
  front_is_not_refused front file frames None fault gives refused = laws.never_both file frames fault gives refused.first
  front_is_not_refused front file frames (Some place) fault (asked, front_of) refused =
      let same : fault ≡ front_of.fault = laws.one_fault file front_of.fault fault (frames, front_of.first) refused.first in
      refused.no_front asked (ap (λ f. is_cut_off f.kind) same ∙ front_of.cut)

  -- the cut is one
  pub front_has_one_cut : (front other : Bool) (file : List ℕ) (frames others : List FrameValue) (cut other_cut : Option ℕ)
      → FileGives front file frames cut → FileGives other file others other_cut → other_cut ≡ cut
  front_has_one_cut front other file frames others None None gives gives_other = refl
  front_has_one_cut front other file frames others None (Some place) gives (asked, front_of) =
      absurd (laws.never_both file frames front_of.fault gives (others, front_of.first))
  front_has_one_cut front other file frames others (Some place) None (asked, front_of) gives_other =
      absurd (laws.never_both file others front_of.fault gives_other (frames, front_of.first))
  front_has_one_cut front other file frames others (Some place) (Some other_place) (asked, front_of) (asked_other, other_front) =
      let same : other_front.fault ≡ front_of.fault =
      laws.one_fault file front_of.fault other_front.fault (frames, front_of.first) (others, other_front.first) in
      ap Some (other_front.place_is ∙ ap (λ f. f.place) same ∙ sym front_of.place_is)

  -- the frames are one list
  pub front_has_one_list : (front other : Bool) (file : List ℕ) (frames others : List FrameValue) (cut other_cut : Option ℕ)
      → FileGives front file frames cut → FileGives other file others other_cut → others ≡ frames
  front_has_one_list front other file frames others None None gives gives_other = laws.one_list file frames others gives gives_other
  front_has_one_list front other file frames others None (Some place) gives (asked, front_of) =
      absurd (laws.never_both file frames front_of.fault gives (others, front_of.first))
  front_has_one_list front other file frames others (Some place) None (asked, front_of) gives_other =
      absurd (laws.never_both file others front_of.fault gives_other (frames, front_of.first))
  front_has_one_list front other file frames others (Some place) (Some other_place) (asked, front_of) (asked_other, other_front) =
      laws.one_before file frames others front_of.fault other_front.fault front_of.first other_front.first
