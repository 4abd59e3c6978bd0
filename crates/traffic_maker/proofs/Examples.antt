-- Worked examples: what seed 7 makes.
use Rattle.std.proofs.Common.{◌≡◌, ◌*◌, [], ◌∷◌, ◌++◌, length, refl, arith}
use Rattle.traffic_maker.specs.Draws.{next_state, state_after, draw_from, draw}
use Rattle.traffic_maker.specs.Address.{made_address}
use Rattle.traffic_maker.specs.Frame.{wire_length, frame_length, frame_header}
use Rattle.traffic_maker.specs.Frame.{ethernet_header, ip_header, frame_bytes}
use Rattle.traffic_maker.specs.Frame.{captured_length, made_frame}
use Rattle.traffic_maker.specs.Making.{capture_header, capture_frames, made_capture}
use Rattle.traffic_maker.specs.Making.{most_frames}
use Rattle.traffic_maker.specs.Piece.{frames_in_piece, bytes_in_piece}
use Rattle.traffic_maker.proofs.MadeFrameLemmas.{one_made_frame_more}

pub first_state_of_seven : next_state 7 ≡ 9098160460397411210
unfolding next_state
first_state_of_seven = refl

pub no_draw_leaves_the_seed : state_after 7 0 ≡ 7
no_draw_leaves_the_seed = refl

pub first_number_of_seven : draw 7 0 ≡ 2118330556
unfolding next_state
first_number_of_seven = refl

pub second_number_of_seven : draw 7 1 ≡ 4104526463
unfolding next_state
second_number_of_seven = refl

pub upper_half_of_a_state : draw_from 9098160460397411210 ≡ 2118330556
upper_half_of_a_state = refl

-- 2118330556 is 7e 43 28 bc: 126 is from 64 to 127, 67 is 3 more than a multiple of 4, 40 stays
pub source_of_the_first_frame : made_address 10 2118330556 ≡ 10 ∷ 0 ∷ 3 ∷ 40 ∷ []
source_of_the_first_frame = refl

-- 4104526463 is f4 a6 1a 7f
pub destination_of_the_first_frame : made_address 20 4104526463 ≡ 20 ∷ 166 ∷ 26 ∷ 127 ∷ []
destination_of_the_first_frame = refl

-- 1073741823 is 3f ff ff ff: the greatest number that gives the one host
pub one_host : made_address 10 1073741823 ≡ 10 ∷ 0 ∷ 0 ∷ 1 ∷ []
one_host = refl

-- 2147483648 is 80 00 00 00
pub first_of_all_hosts : made_address 20 2147483648 ≡ 20 ∷ 0 ∷ 0 ∷ 0 ∷ []
first_of_all_hosts = refl

pub lengths_in_turn : wire_length 7 ≡ 400
lengths_in_turn = refl

pub captured_bytes : captured_length ≡ 34
captured_bytes = refl

pub bytes_of_a_frame : frame_length ≡ 50
bytes_of_a_frame = refl

pub bytes_of_a_piece : bytes_in_piece ≡ 50 * frames_in_piece
bytes_of_a_piece = refl

pub header_of_frame_258 : frame_header 258 ≡ 2 ∷ 1 ∷ 0 ∷ 0 ∷ 0 ∷ 0 ∷ 0 ∷ 0 ∷ 34 ∷ 0 ∷ 0 ∷ 0 ∷ 44 ∷ 1 ∷ 0 ∷ 0 ∷ []
header_of_frame_258 = refl

pub length_of_the_ethernet_header : length ethernet_header ≡ 14
length_of_the_ethernet_header = refl

pub length_of_the_ip_header : length (ip_header 0 (10 ∷ 0 ∷ 3 ∷ 40 ∷ []) (20 ∷ 166 ∷ 26 ∷ 127 ∷ [])) ≡ 20
length_of_the_ip_header = refl

pub million_frames_at_most : most_frames ≡ 1000000
million_frames_at_most = refl

-- the 74 bytes of the capture of one frame
pub capture_of_one_frame
    : made_capture 7 1
    ≡ 0xd4 ∷ 0xc3 ∷ 0xb2 ∷ 0xa1 ∷ 2 ∷ 0 ∷ 4 ∷ 0 ∷ 0 ∷ 0 ∷ 0 ∷ 0 ∷ 0 ∷ 0 ∷ 0 ∷ 0 ∷ 0 ∷ 0 ∷ 4 ∷ 0 ∷ 1 ∷ 0 ∷ 0 ∷ 0
    ∷ 0 ∷ 0 ∷ 0 ∷ 0 ∷ 0 ∷ 0 ∷ 0 ∷ 0 ∷ 34 ∷ 0 ∷ 0 ∷ 0 ∷ 100 ∷ 0 ∷ 0 ∷ 0
    ∷ 2 ∷ 0 ∷ 0 ∷ 0 ∷ 0 ∷ 2 ∷ 2 ∷ 0 ∷ 0 ∷ 0 ∷ 0 ∷ 1 ∷ 8 ∷ 0
    ∷ 0x45 ∷ 0 ∷ 0 ∷ 86 ∷ 0 ∷ 0 ∷ 0 ∷ 0 ∷ 64 ∷ 17 ∷ 0 ∷ 0 ∷ 10 ∷ 0 ∷ 3 ∷ 40 ∷ 20 ∷ 166 ∷ 26 ∷ 127 ∷ []
unfolding capture_header made_frame frame_bytes next_state
capture_of_one_frame = refl

-- the second frame follows the first
pub second_frame_follows_the_first : capture_frames 7 0 2 ≡ capture_frames 7 0 1 ++ made_frame 7 1
second_frame_follows_the_first = one_made_frame_more 7 0 1 (omega arith)
