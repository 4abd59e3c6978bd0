-- Made captures are captures: the frames of each, which a reader takes from it.
use Rattle.std.proofs.Common.{ℕ, zero, suc, ◌≡◌, ◌≤◌, ◌<◌, ◌+◌, ◌*◌, ◌%◌, ◌^◌, List, [], ◌∷◌, ◌++◌}
use Rattle.std.proofs.Common.{length, map, drop, refl, ap, arith}
use Rattle.std.specs.Prelude.{nat_lt}
use Rattle.std.specs.Int.{byte_at}
use Rattle.std.specs.List.{range_with_len}
use Rattle.std.proofs.lemmas.Bool.{cond_both}
use Rattle.std.proofs.lemmas.List.FromFn.{length-map-range_with_len}
use Rattle.frame_records.specs.{FileHasFrames}
use Rattle.pcap_frames.specs.declared.file_order.FileOrder.TheVariants.{Little}
use Rattle.pcap_frames.specs.{BeginsWithFrame, BeginsWithFrames, FrameValue, IsHeader, order_of_magic}
use Rattle.pcap_frames.specs.{number_in_order}
use Rattle.traffic_maker.specs.{made_address, capture_header, draw, ethernet_header, frame_bytes}
use Rattle.traffic_maker.specs.{ip_header}
use Rattle.traffic_maker.specs.{made_capture, made_frame, capture_frames, most_frames}
use Rattle.traffic_maker.specs.{wire_length}

-- a list of four numbers
record IsMadeCaptureAddress (bytes : List ℕ) : Type 0 where
  first : ℕ
  second : ℕ
  third : ℕ
  fourth : ℕ
  are : bytes ≡ first ∷ second ∷ third ∷ fourth ∷ []

-- an address has four bytes, whichever of its three forms it has
made_capture_address_is_four : (first number : ℕ) → IsMadeCaptureAddress (made_address first number)
made_capture_address_is_four first number =
    cond_both (nat_lt (byte_at 3 number) 64) _ _ IsMadeCaptureAddress
    (λ one_host. record { first = first; second = 0; third = 0; fourth = 1; are = refl })
    (λ more. cond_both (nat_lt (byte_at 3 number) 128) _ _ IsMadeCaptureAddress
    (λ few_hosts. record { first = _; second = _; third = _; fourth = _; are = refl })
    (λ any_host. record { first = _; second = _; third = _; fourth = _; are = refl }))

-- the frame that a reader takes from the bytes of a made one
abbrev pub made_capture_value_between : ℕ → List ℕ → List ℕ → FrameValue
made_capture_value_between index source dest = record {
  head = ethernet_header ++ ip_header index source dest;
  captured = 34;
  original = wire_length index;
}

-- the four bytes of a number, lowest first, as a number
abbrev made_capture_number : ℕ → ℕ
made_capture_number n =
    (byte_at 0 n + 256 * (byte_at 1 n + 256 * (byte_at 2 n + 256 * (byte_at 3 n + 256 * 0)))) % 256 ^ 4

made_capture_length_is_one_of_four : (rest : ℕ) → rest < 4 → 100 * (1 + rest) ≡ made_capture_number (100 * (1 + rest))
made_capture_length_is_one_of_four zero below = refl
made_capture_length_is_one_of_four (suc zero) below = refl
made_capture_length_is_one_of_four (suc (suc zero)) below = refl
made_capture_length_is_one_of_four (suc (suc (suc zero))) below = refl
made_capture_length_is_one_of_four (suc (suc (suc (suc rest)))) below = absurd (omega (arith, below))

-- the four bytes of a wire length, lowest first, are that length again
made_capture_length_is_spelled : (index : ℕ) → wire_length index ≡ made_capture_number (wire_length index)
made_capture_length_is_spelled index = made_capture_length_is_one_of_four (index % 4) (omega arith)

-- over two addresses of four bytes the bytes of a made frame begin with that frame
made_capture_spells_value : (index a b c d e f g h : ℕ) (rest : List ℕ)
    → BeginsWithFrame Little (frame_bytes index (a ∷ b ∷ c ∷ d ∷ []) (e ∷ f ∷ g ∷ h ∷ []) ++ rest)
    (made_capture_value_between index (a ∷ b ∷ c ∷ d ∷ []) (e ∷ f ∷ g ∷ h ∷ []))
unfolding frame_bytes number_in_order
made_capture_spells_value index a b c d e f g h rest = record {
  header = omega arith;
  is_frame = ap
      (λ original. record {
        head = ethernet_header ++ ip_header index (a ∷ b ∷ c ∷ d ∷ []) (e ∷ f ∷ g ∷ h ∷ []);
        captured = 34;
        original = original;
      })
      (made_capture_length_is_spelled index);
  limit = omega arith;
  room = omega arith;
}

-- a made frame has 50 bytes in the file
made_capture_behind_value : (index a b c d e f g h : ℕ) (rest : List ℕ)
    → drop 50 (frame_bytes index (a ∷ b ∷ c ∷ d ∷ []) (e ∷ f ∷ g ∷ h ∷ []) ++ rest) ≡ rest
unfolding frame_bytes
made_capture_behind_value index a b c d e f g h rest = refl

-- the bytes of a frame, and then those of others, are that frame and the others
made_capture_values_follow : (index : ℕ) (source dest : List ℕ) → IsMadeCaptureAddress source → IsMadeCaptureAddress dest
    → (rest : List ℕ) (frames : List FrameValue) → BeginsWithFrames Little rest frames []
    → BeginsWithFrames Little (frame_bytes index source dest ++ rest) (made_capture_value_between index source dest ∷ frames) []
made_capture_values_follow index source dest from to rest frames others =
    let behind =
    made_capture_behind_value index from.first from.second from.third from.fourth to.first to.second to.third to.fourth rest in
    rw (from.are, to.are) (
      made_capture_spells_value index from.first from.second from.third from.fourth to.first to.second to.third to.fourth rest,
      rw behind others,
    )

-- the frame that a reader takes at an index
abbrev pub made_capture_value : ℕ → ℕ → FrameValue
made_capture_value seed index =
    made_capture_value_between index (made_address 10 (draw seed (2 * index))) (made_address 20 (draw seed (2 * index + 1)))

-- the frames that a reader takes from this many made ones, from an index on
abbrev pub made_capture_values : ℕ → ℕ → ℕ → List FrameValue
made_capture_values seed first count = map (made_capture_value seed) (range_with_len first count)

-- the bytes of made frames are those frames
made_capture_begins_with_values : (seed first count : ℕ)
    → BeginsWithFrames Little (capture_frames seed first count) (made_capture_values seed first count) []
unfolding made_frame
made_capture_begins_with_values seed first zero = refl
made_capture_begins_with_values seed first (suc count) =
    made_capture_values_follow first (made_address 10 (draw seed (2 * first))) (made_address 20 (draw seed (2 * first + 1)))
    (made_capture_address_is_four 10 (draw seed (2 * first))) (made_capture_address_is_four 20 (draw seed (2 * first + 1)))
    (capture_frames seed (first + 1) count) (made_capture_values seed (first + 1) count)
    (made_capture_begins_with_values seed (first + 1) count)

-- a made capture begins with a whole header
made_capture_has_header : (rest : List ℕ) → IsHeader Little (capture_header ++ rest)
unfolding capture_header order_of_magic number_in_order
made_capture_has_header rest = record { whole = omega arith; magic = refl; major = refl; minor = refl; link = refl }

-- the frames follow the header
made_capture_behind_header : (rest : List ℕ) → drop 24 (capture_header ++ rest) ≡ rest
unfolding capture_header
made_capture_behind_header rest = refl

-- a reader takes as many frames from a made capture as were asked for
pub made_capture_value_count : (seed count : ℕ) → length (made_capture_values seed 0 count) ≡ count
made_capture_value_count seed count = length-map-range_with_len (made_capture_value seed) 0 count

-- the frames of a made capture are those made
pub made_capture_has_values : (seed count : ℕ) → count ≤ most_frames
    → FileHasFrames (made_capture seed count) (made_capture_values seed 0 count)
unfolding capture_header number_in_order
made_capture_has_values seed count few = (
  Little,
  record {
    header = made_capture_has_header (capture_frames seed 0 count);
    begins = rw (made_capture_behind_header (capture_frames seed 0 count)) (made_capture_begins_with_values seed 0 count);
    limit = omega (arith, few, made_capture_value_count seed count);
  },
)

-- a made capture is a capture
pub made_capture_has_frames : (seed count : ℕ) → count ≤ most_frames
    → (frames : List FrameValue) × FileHasFrames (made_capture seed count) frames
made_capture_has_frames seed count few = (made_capture_values seed 0 count, made_capture_has_values seed count few)
