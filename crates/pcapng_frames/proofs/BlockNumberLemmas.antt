-- The numbers of a block in the bytes at its front, and when more bytes follow.
use Rattle.std.proofs.Common.{ℕ, ◌≡◌, ◌+◌, ◌%◌, ◌^◌, ◌≤◌, ◌<◌, arith, List, ◌++◌, length, take, refl, sym, ap, ◌∙◌}
use Rattle.std.proofs.lemmas.List.{take_at}
use Rattle.std.proofs.lemmas.Nat.{mod_below}
use Rattle.byteorder.specs.Endian.{big_from, little_from}
use Rattle.byteorder.specs.Numbers.{big_from-take, little_from-take}
use Rattle.pcap_frames.specs.declared.file_order.FileOrder.{FileOrder}
use Rattle.pcap_frames.specs.declared.file_order.FileOrder.TheVariants.{Big, Little}
use Rattle.pcap_frames.specs.{number_in_order}
use Rattle.pcapng_frames.specs.Block.{order_of_section}

-- a number reads no byte past its end
pub number_in_order-of_block_front : (order : FileOrder) (count place n : ℕ) (bytes : List ℕ) → place + count ≤ n
    → number_in_order order count place (take n bytes) ≡ number_in_order order count place bytes
unfolding number_in_order
number_in_order-of_block_front Big count place n bytes fits =
    ap (λ x. x % 256 ^ count) (big_from-take place count n bytes fits)
number_in_order-of_block_front Little count place n bytes fits =
    ap (λ x. x % 256 ^ count) (little_from-take place count n bytes fits)

-- a number stays when more bytes follow
pub number_in_order-of_longer_block : (order : FileOrder) (count place : ℕ) (bytes more : List ℕ) → place + count ≤ length bytes
    → number_in_order order count place (bytes ++ more) ≡ number_in_order order count place bytes
number_in_order-of_longer_block order count place bytes more fits =
    sym (number_in_order-of_block_front order count place (length bytes) (bytes ++ more) fits)
    ∙ ap (number_in_order order count place) (take_at bytes more (length bytes) refl)

-- a number of four bytes is one of 32 bits
pub number_in_order-of_four_block_bytes : (order : FileOrder) (place : ℕ) (bytes : List ℕ)
    → number_in_order order 4 place bytes < 256 ^ 4
unfolding number_in_order
number_in_order-of_four_block_bytes Big place bytes = mod_below (big_from place 4 bytes) (256 ^ 4) (omega arith)
number_in_order-of_four_block_bytes Little place bytes = mod_below (little_from place 4 bytes) (256 ^ 4) (omega arith)

-- the byte order of a section reads no byte past the magic
pub order_of_section-of_block_front : (n : ℕ) (bytes : List ℕ) → 12 ≤ n → order_of_section (take n bytes) ≡ order_of_section bytes
unfolding order_of_section
order_of_section-of_block_front n bytes fits =
    rw (number_in_order-of_block_front Big 4 8 n bytes fits, number_in_order-of_block_front Little 4 8 n bytes fits) refl

-- the byte order of a section stays when more bytes follow
pub order_of_section-of_longer_block : (bytes more : List ℕ) → 12 ≤ length bytes
    → order_of_section (bytes ++ more) ≡ order_of_section bytes
unfolding order_of_section
order_of_section-of_longer_block bytes more fits =
    rw (number_in_order-of_longer_block Big 4 8 bytes more fits, number_in_order-of_longer_block Little 4 8 bytes more fits) refl
