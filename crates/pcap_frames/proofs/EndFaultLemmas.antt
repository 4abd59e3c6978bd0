-- Faults that bytes show are not those that the end of a file makes, and where they are.
use Rattle.std.proofs.Common.{◌≡◌, ◌≤◌, ℕ, Bool, true, false, List, length, Option, None, Some, inl, inr, subst, arith}
use Rattle.std.specs.Prelude.{⊤, nat_lt, ◌==◌, if◌then◌else◌}
use Rattle.pcap_frames.specs.declared.file_order.FileOrder.{FileOrder}
use Rattle.pcap_frames.specs.declared.fault.CaptureFault.{CaptureFault}
use Rattle.pcap_frames.specs.Frame.{FrameValue}
use Rattle.pcap_frames.specs.declared.fault.FaultKind.{FaultKind}
use Rattle.pcap_frames.specs.Header.{order_of_magic, fields_fault, header_fault, header_fault_at}
use Rattle.pcap_frames.specs.FileOrder.{number_in_order}
use Rattle.pcap_frames.specs.declared.fault.FaultKind.TheVariants.{NotCapture, Version, Link, LongFrame, TooManyFrames}
use Rattle.pcap_frames.specs.Frame.{frame_fault}
use Rattle.pcap_frames.specs.CaptureFault.{IsEndFault, ShowsFault}

-- a fault that the end of a file doesn't make, no farther than this
record IsShownFault (most : ℕ) (fault : CaptureFault) : Type 0 where
  pub no_end : IsEndFault fault.kind → ⊥
  pub place : fault.place ≤ most

abbrev IsShownFaultIfAny : ℕ → Option CaptureFault → Type 0
IsShownFaultIfAny most None = ⊤
IsShownFaultIfAny most (Some fault) = IsShownFault most fault

-- there is no fault, or such a fault
record IsNoEndFault (most : ℕ) (found : Option CaptureFault) : Type 0 where
  pub shown : IsShownFaultIfAny most found

not_end_fault : ⊥ → ⊥
not_end_fault ends = ends

none_is_no_end_fault : (most : ℕ) → IsNoEndFault most None
none_is_no_end_fault most = record { shown = tt }

fault_is_no_end_fault : (most : ℕ) (kind : FaultKind) (place : ℕ) → (IsEndFault kind → ⊥) → place ≤ most
    → IsNoEndFault most (Some (header_fault_at kind place))
fault_is_no_end_fault most kind place no_end fits = record { shown = record { no_end = no_end; place = fits } }

either_is_no_end_fault : (most : ℕ) (test : Bool) (one other : Option CaptureFault) → IsNoEndFault most one
    → IsNoEndFault most other → IsNoEndFault most (if test then one else other)
either_is_no_end_fault most true one other shown other_shown = shown
either_is_no_end_fault most false one other shown other_shown = other_shown

fields_show_no_end_fault : (order : Option FileOrder) (bytes : List ℕ) → IsNoEndFault 20 (fields_fault order bytes)
fields_show_no_end_fault None bytes = fault_is_no_end_fault 20 NotCapture 0 not_end_fault (omega arith)
fields_show_no_end_fault (Some order) bytes =
    let none = none_is_no_end_fault 20 in
    let version = fault_is_no_end_fault 20 Version 4 not_end_fault (omega arith) in
    let link =
    either_is_no_end_fault 20 (number_in_order order 4 20 bytes == 1) None (Some (header_fault_at Link 20)) none
    (fault_is_no_end_fault 20 Link 20 not_end_fault (omega arith)) in
    let whole = either_is_no_end_fault 20 (nat_lt (length bytes) 24) None _ none link in
    let minor = either_is_no_end_fault 20 (number_in_order order 2 6 bytes == 4) _ (Some (header_fault_at Version 4)) whole version in
    either_is_no_end_fault 20 (nat_lt (length bytes) 8) None _ none
    (either_is_no_end_fault 20 (number_in_order order 2 4 bytes == 2) _ (Some (header_fault_at Version 4)) minor version)

header_shows_no_end_fault : (bytes : List ℕ) → IsNoEndFault 20 (header_fault bytes)
unfolding header_fault
header_shows_no_end_fault bytes =
    either_is_no_end_fault 20 (nat_lt (length bytes) 4) None (fields_fault (order_of_magic bytes) bytes)
    (none_is_no_end_fault 20) (fields_show_no_end_fault (order_of_magic bytes) bytes)

frame_shows_no_end_fault : (order : FileOrder) (count place : ℕ) (rest : List ℕ)
    → IsNoEndFault place (frame_fault order count place rest)
unfolding frame_fault
frame_shows_no_end_fault order count place rest =
    let none = none_is_no_end_fault place in
    let long =
    either_is_no_end_fault place (nat_lt 262144 (number_in_order order 4 8 rest)) (Some (header_fault_at LongFrame place)) None
    (fault_is_no_end_fault place LongFrame place not_end_fault (omega arith)) none in
    let header = either_is_no_end_fault place (nat_lt (length rest) 16) None _ none long in
    let many =
    either_is_no_end_fault place (count == 16777216) (Some (header_fault_at TooManyFrames place)) _
    (fault_is_no_end_fault place TooManyFrames place not_end_fault (omega arith)) header in
    either_is_no_end_fault place (nat_lt 0 (length rest)) _ None many none

shown_is_not_end_fault : (most : ℕ) (found : Option CaptureFault) (fault : CaptureFault) → IsNoEndFault most found
    → found ≡ Some fault → IsShownFault most fault
shown_is_not_end_fault most found fault is_shown same = subst (IsShownFaultIfAny most) same is_shown.shown

pub bytes_show_no_end_fault : (bytes : List ℕ) (frames : List FrameValue) (fault : CaptureFault)
    → ShowsFault bytes frames fault → IsEndFault fault.kind → ⊥
bytes_show_no_end_fault bytes frames fault (inl in_header) =
    let shown = shown_is_not_end_fault 20 _ fault (header_shows_no_end_fault bytes) in_header.shown in shown.no_end
bytes_show_no_end_fault bytes frames fault (inr in_frames) =
    let shown = shown_is_not_end_fault _ _ fault
    (frame_shows_no_end_fault in_frames.order (length frames) _ in_frames.rest) in_frames.shown in
    shown.no_end

-- a fault in the header is no farther than the link type
pub header_shows_fault_near : (bytes : List ℕ) (fault : CaptureFault) → header_fault bytes ≡ Some fault → fault.place ≤ 20
header_shows_fault_near bytes fault is =
    let shown = shown_is_not_end_fault 20 _ fault (header_shows_no_end_fault bytes) is in shown.place

-- the fault of a frame is no farther than the frame
pub frame_shows_fault_near : (order : FileOrder) (count place : ℕ) (rest : List ℕ) (fault : CaptureFault)
    → frame_fault order count place rest ≡ Some fault → fault.place ≤ place
frame_shows_fault_near order count place rest fault is =
    let shown = shown_is_not_end_fault place _ fault (frame_shows_no_end_fault order count place rest) is in shown.place
