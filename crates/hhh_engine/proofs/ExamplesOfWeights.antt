-- Worked examples of what `weigh` writes for a capture of one packet.
use Rattle.std.proofs.Common.{◌≡◌, ℕ, None, List, [], ◌∷◌, ◌++◌, refl, codes, take, arith}
use Rattle.std.specs.Fmt.{digits}
use Rattle.prefix_lattice.specs.{PrefixValue, address_bits}
use Rattle.pcap_frames.specs.declared.file_order.FileOrder.TheVariants.{Little}
use Rattle.pcap_frames.specs.{number_in_order, FrameValue, order_of_magic}
use Rattle.frame_records.specs.{FileHasFrames}
use Rattle.frame_records.specs.declared.weigh.Weigh.TheVariants.{Packets}
use Rattle.hhh_engine.specs.Weigh.{text_shape, weight_text, text_for, IsWeightText}
use Rattle.report_session.proofs.Examples.{header}
use Rattle.report_session.proofs.ExamplesOfSessions.{settings}
use Rattle.dealt_capture.proofs.Examples.{packet}

-- 10.0.0.0/8 20.0.0.0/8, and 11.0.0.0/8 20.0.0.0/8
abbrev pub prefix : PrefixValue
prefix = record { source = take 8 (address_bits 0x0a000000); dest = take 8 (address_bits 0x14000000) }

abbrev other_source : PrefixValue
other_source = record { source = take 8 (address_bits 0x0b000000); dest = take 8 (address_bits 0x14000000) }

pub text_of_a_weight : weight_text 60 100 100 ≡ codes "low 60\nhigh 100\ntotal 100\n"
unfolding digits
text_of_a_weight = refl

pub text_of_the_packet : text_for prefix (packet ∷ []) ≡ weight_text 100 100 100
text_of_the_packet = refl

-- a table that isn't full shows that nothing came from other sources
pub text_of_another_source : text_for other_source (packet ∷ []) ≡ weight_text 0 0 100
text_of_another_source = refl

pub room_for_other_prefixes : text_shape.capacity ≡ 64
room_for_other_prefixes = refl

-- the header of its frame, 34 captured bytes of 100, and those bytes
abbrev frame_header : List ℕ
frame_header = 0 ∷ 0 ∷ 0 ∷ 0 ∷ 0 ∷ 0 ∷ 0 ∷ 0 ∷ 34 ∷ 0 ∷ 0 ∷ 0 ∷ 100 ∷ 0 ∷ 0 ∷ 0 ∷ []

abbrev captured : List ℕ
captured =
    2 ∷ 0 ∷ 0 ∷ 0 ∷ 0 ∷ 2 ∷ 2 ∷ 0 ∷ 0 ∷ 0 ∷ 0 ∷ 1 ∷ 8 ∷ 0 ∷ 0x45 ∷ 0 ∷ 0 ∷ 86 ∷ 0 ∷ 0 ∷ 0 ∷ 0 ∷ 64 ∷ 17 ∷ 0 ∷ 0 ∷ 10
    ∷ 1 ∷ 2 ∷ 3 ∷ 20 ∷ 1 ∷ 2 ∷ 3 ∷ []

abbrev pub file : List ℕ
file = header ++ frame_header ++ captured

abbrev frame : FrameValue
frame = record { head = captured; captured = 34; original = 100 }

pub file_is_a_capture : FileHasFrames file (frame ∷ [])
unfolding number_in_order order_of_magic
file_is_a_capture = (
  Little,
  record {
    header = record { whole = omega arith; magic = refl; major = refl; minor = refl; link = refl };
    begins = (record { header = omega arith; is_frame = refl; limit = omega arith; room = omega arith }, refl);
    limit = omega arith;
  },
)

-- `weigh 10.0.0.0/8 20.0.0.0/8` over the file
pub weight_of_the_file : IsWeightText prefix settings file (codes "low 100\nhigh 100\ntotal 100\n")
unfolding digits
weight_of_the_file = record {
  frames = frame ∷ [];
  cut = None;
  capture = file_is_a_capture;
  spelled = refl;
  holds = record { holds = record { low = omega arith; high = omega arith }; narrow = omega arith };
}

-- and with `--weigh packets`
pub packets_of_the_file : IsWeightText prefix (record settings { weigh = Packets }) file (codes "low 1\nhigh 1\ntotal 1\n")
unfolding digits
packets_of_the_file = record {
  frames = frame ∷ [];
  cut = None;
  capture = file_is_a_capture;
  spelled = refl;
  holds = record { holds = record { low = omega arith; high = omega arith }; narrow = omega arith };
}
