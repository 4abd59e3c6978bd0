-- Worked examples of captures of either format.
use Rattle.std.proofs.Common.{◌≡◌, true, false, [], ◌∷◌, take, refl, inl, inr, arith}
use Rattle.pcap_frames.specs.{Format, number_in_order, header_fault, header_fault_at}
use Rattle.pcap_frames.specs.declared.fault.FaultKind.TheVariants.{ShortHeader, CutBlock}
use Rattle.pcap_frames.proofs.Examples as classic
use Rattle.pcapng_frames.specs.EitherFormat.{begins_as_pcapng, capture_format}
use Rattle.pcapng_frames.proofs.Examples.{header_block, ng_capture, packet, capture_of_a_packet, section_type_alone}

pub section_header_begins_pcapng : begins_as_pcapng header_block ≡ true
unfolding number_in_order
section_header_begins_pcapng = refl

pub magic_begins_classic : begins_as_pcapng (0xd4 ∷ 0xc3 ∷ 0xb2 ∷ 0xa1 ∷ []) ≡ false
unfolding number_in_order
magic_begins_classic = refl

pub three_bytes_begin_classic : begins_as_pcapng (take 3 header_block) ≡ false
unfolding number_in_order
three_bytes_begin_classic = refl

pub pcapng_capture_is_one : Format.is_capture capture_format ng_capture (packet ∷ [])
unfolding number_in_order
pcapng_capture_is_one = capture_of_a_packet

pub classic_capture_is_one : Format.is_capture capture_format classic.capture (classic.frame ∷ [])
unfolding number_in_order
classic_capture_is_one = classic.header_and_frame

-- four bytes of a section header are a block that is cut, and three are a short header
pub section_type_is_cut : Format.has_fault_after capture_format (take 4 header_block) [] (header_fault_at CutBlock 0)
unfolding number_in_order
section_type_is_cut = inr section_type_alone

pub three_bytes_are_short : Format.has_fault_after capture_format (take 3 header_block) [] (header_fault_at ShortHeader 3)
unfolding number_in_order header_fault
three_bytes_are_short = inr (inl (record { none_shown = refl; short = omega arith; none_before = refl; is_fault = refl }))
