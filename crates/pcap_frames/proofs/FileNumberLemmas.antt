-- The numbers of a file when more bytes follow.
use Rattle.std.proofs.Common.{arith, ℕ, ◌≡◌, ◌+◌, ◌%◌, ◌^◌, ◌≤◌, ◌<◌, List, ◌++◌, length, take, refl, sym, ap, ◌∙◌}
use Rattle.std.proofs.lemmas.List.{take_at}
use Rattle.std.proofs.lemmas.Nat.{mod_below}
use Rattle.byteorder.specs.Endian.{big_from, little_from}
use Rattle.byteorder.specs.Numbers.{big_from-take, little_from-take}
use Rattle.pcap_frames.specs.declared.file_order.FileOrder.{FileOrder}
use Rattle.pcap_frames.specs.declared.file_order.FileOrder.TheVariants.{Big, Little}
use Rattle.pcap_frames.specs.FileOrder.{number_in_order}

-- a number reads no byte past its end
pub number_in_order-in_file_front : (order : FileOrder) (count place n : ℕ) (bytes : List ℕ) → place + count ≤ n
    → number_in_order order count place (take n bytes) ≡ number_in_order order count place bytes
unfolding number_in_order
number_in_order-in_file_front Big count place n bytes fits =
    ap (λ x. x % 256 ^ count) (big_from-take place count n bytes fits)
number_in_order-in_file_front Little count place n bytes fits =
    ap (λ x. x % 256 ^ count) (little_from-take place count n bytes fits)

-- a number stays when more bytes follow
pub number_in_order-in_longer_file : (order : FileOrder) (count place : ℕ) (bytes more : List ℕ) → place + count ≤ length bytes
    → number_in_order order count place (bytes ++ more) ≡ number_in_order order count place bytes
number_in_order-in_longer_file order count place bytes more fits =
    sym (number_in_order-in_file_front order count place (length bytes) (bytes ++ more) fits)
    ∙ ap (number_in_order order count place) (take_at bytes more (length bytes) refl)

-- a number of four bytes is one of 32 bits
pub number_in_order-in_four_file_bytes : (order : FileOrder) (place : ℕ) (bytes : List ℕ)
    → number_in_order order 4 place bytes < 256 ^ 4
unfolding number_in_order
number_in_order-in_four_file_bytes Big place bytes = mod_below (big_from place 4 bytes) (256 ^ 4) (omega arith)
number_in_order-in_four_file_bytes Little place bytes = mod_below (little_from place 4 bytes) (256 ^ 4) (omega arith)
