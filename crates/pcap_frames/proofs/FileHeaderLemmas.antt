-- The file header when more bytes follow.
use Rattle.std.proofs.Common.{ℕ, ◌≡◌, ◌≤◌, false, ltb, eqb, Option, Some, None, List, ◌++◌, length, refl, ◌∙◌}
use Rattle.std.proofs.Common.{arith, length-append, inl, inr}
use Rattle.std.proofs.lemmas.Bool.{ltb-false, le-ltb, eqb-true, eq-eqb, cases_Bool}
use Rattle.pcap_frames.specs.declared.file_order.FileOrder.{FileOrder}
use Rattle.pcap_frames.specs.declared.file_order.FileOrder.TheVariants.{Big, Little}
use Rattle.pcap_frames.specs.declared.fault.CaptureFault.{CaptureFault}
use Rattle.pcap_frames.specs.FileOrder.{number_in_order}
use Rattle.pcap_frames.specs.Header.{order_of_magic, fields_fault, header_fault, IsHeader}
use Rattle.pcap_frames.proofs.FileNumberLemmas.{number_in_order-in_longer_file}

-- the magic stays when more bytes follow
pub file_header_magic_stays : (bytes more : List ℕ) → 4 ≤ length bytes → order_of_magic (bytes ++ more) ≡ order_of_magic bytes
unfolding order_of_magic
file_header_magic_stays bytes more fits =
    rw (number_in_order-in_longer_file Big 4 0 bytes more (omega arith), number_in_order-in_longer_file Little 4 0 bytes more (omega arith)) refl

-- a whole header shows no fault
pub file_header_shows_no_fault : (order : FileOrder) (bytes : List ℕ) → IsHeader order bytes → header_fault bytes ≡ None
unfolding header_fault
file_header_shows_no_fault order bytes header =
    rw (
      le-ltb (length bytes) 4 (omega arith),
      header.magic,
      le-ltb (length bytes) 8 (omega arith),
      eq-eqb _ 2 header.major,
      eq-eqb _ 4 header.minor,
      le-ltb (length bytes) 24 header.whole,
      eq-eqb _ 1 header.link,
    ) refl

-- 24 bytes whose magic shows an order and whose fields show nothing wrong are a whole header
file_header_from_fields : (order : FileOrder) (bytes : List ℕ) → order_of_magic bytes ≡ Some order → 24 ≤ length bytes
    → fields_fault (Some order) bytes ≡ None → IsHeader order bytes
file_header_from_fields order bytes magic whole none =
    let short : ltb (length bytes) 8 ≡ false = le-ltb (length bytes) 8 (omega arith) in
    let long : ltb (length bytes) 24 ≡ false = le-ltb (length bytes) 24 whole in
    let first = rw (short, long) at none in
    elim (cases_Bool (eqb (number_in_order order 2 4 bytes) 2)) [
      | inr major ↦ absurd (let wrong = rw major at first in cc)
      | inl major ↦ let second = rw major at first in elim (cases_Bool (eqb (number_in_order order 2 6 bytes) 4)) [
        | inr minor ↦ absurd (let wrong = rw minor at second in cc)
        | inl minor ↦ let third = rw minor at second in elim (cases_Bool (eqb (number_in_order order 4 20 bytes) 1)) [
          | inr link ↦ absurd (let wrong = rw link at third in cc)
          | inl link ↦ record {
            whole = whole;
            magic = magic;
            major = eqb-true _ 2 major;
            minor = eqb-true _ 4 minor;
            link = eqb-true _ 1 link;
          }
        ]
      ]
    ]

-- the magic of a header that shows nothing wrong
file_header_from_magic : (magic : Option FileOrder) (bytes : List ℕ) → order_of_magic bytes ≡ magic → 24 ≤ length bytes
    → fields_fault magic bytes ≡ None → (order : FileOrder) × IsHeader order bytes
file_header_from_magic None bytes is whole none = absurd cc
file_header_from_magic (Some order) bytes is whole none = (order, file_header_from_fields order bytes is whole none)

-- 24 bytes that show nothing wrong are a whole header
pub file_header_is_whole : (bytes : List ℕ) → 24 ≤ length bytes → header_fault bytes ≡ None
    → (order : FileOrder) × IsHeader order bytes
unfolding header_fault
file_header_is_whole bytes whole none =
    let long : ltb (length bytes) 4 ≡ false = le-ltb (length bytes) 4 (omega arith) in
    file_header_from_magic (order_of_magic bytes) bytes refl whole (rw long at none)

-- the order of a header that shows nothing wrong is that of its magic
pub file_header_of_magic_order : (order : FileOrder) (bytes : List ℕ) → 24 ≤ length bytes → header_fault bytes ≡ None
    → order_of_magic bytes ≡ Some order → IsHeader order bytes
unfolding header_fault
file_header_of_magic_order order bytes whole none magic =
    let long : ltb (length bytes) 4 ≡ false = le-ltb (length bytes) 4 (omega arith) in
    file_header_from_fields order bytes magic whole (rw (long, magic) at none)

-- 24 bytes that show nothing wrong have a magic
pub file_header_has_magic : (bytes : List ℕ) → 24 ≤ length bytes → header_fault bytes ≡ None → order_of_magic bytes ≡ None → ⊥
file_header_has_magic bytes whole none magic = let found = file_header_is_whole bytes whole none in let is = found.1.magic in cc

-- a whole header stays when more bytes follow
pub IsHeader-in_longer_file : (order : FileOrder) (bytes more : List ℕ) → IsHeader order bytes → IsHeader order (bytes ++ more)
IsHeader-in_longer_file order bytes more header = record {
  whole = omega (arith, header.whole, length-append bytes more);
  magic = file_header_magic_stays bytes more (omega (arith, header.whole)) ∙ header.magic;
  major = number_in_order-in_longer_file order 2 4 bytes more (omega (arith, header.whole)) ∙ header.major;
  minor = number_in_order-in_longer_file order 2 6 bytes more (omega (arith, header.whole)) ∙ header.minor;
  link = number_in_order-in_longer_file order 4 20 bytes more header.whole ∙ header.link;
}

-- the fault of the fields stays when more bytes follow
file_header_fields_fault_stays : (magic : Option FileOrder) (bytes more : List ℕ) (fault : CaptureFault)
    → fields_fault magic bytes ≡ Some fault → fields_fault magic (bytes ++ more) ≡ Some fault
file_header_fields_fault_stays None bytes more fault shown = shown
file_header_fields_fault_stays (Some order) bytes more fault shown = elim (cases_Bool (ltb (length bytes) 8)) [
  | inl short ↦ absurd (let wrong = rw short at shown in cc)
  | inr past ↦
      let eight : 8 ≤ length bytes = ltb-false (length bytes) 8 past in
      let longer : ltb (length (bytes ++ more)) 8 ≡ false = le-ltb _ 8 (omega (arith, length-append bytes more)) in
      let first = rw past at shown in
      rw (longer, number_in_order-in_longer_file order 2 4 bytes more (omega arith), number_in_order-in_longer_file order 2 6 bytes more eight) (
      elim (cases_Bool (eqb (number_in_order order 2 4 bytes) 2)) [
        | inr major ↦ rw major (rw major at first)
        | inl major ↦ let second = rw major at first in
            rw major (elim (cases_Bool (eqb (number_in_order order 2 6 bytes) 4)) [
              | inr minor ↦ rw minor (rw minor at second)
              | inl minor ↦ let third = rw minor at second in rw minor (elim (cases_Bool (ltb (length bytes) 24)) [
                | inl part ↦ absurd (let wrong = rw part at third in cc)
                | inr all ↦
                    let whole : 24 ≤ length bytes = ltb-false (length bytes) 24 all in
                    let long : ltb (length (bytes ++ more)) 24 ≡ false =
                    le-ltb _ 24 (omega (arith, length-append bytes more)) in
                    rw (long, number_in_order-in_longer_file order 4 20 bytes more whole) (rw all at third)
              ])
            ])
      ])
]

-- a fault that the header shows stays when more bytes follow
pub file_header_fault_stays : (bytes more : List ℕ) (fault : CaptureFault) → header_fault bytes ≡ Some fault
    → header_fault (bytes ++ more) ≡ Some fault
unfolding header_fault
file_header_fault_stays bytes more fault shown = elim (cases_Bool (ltb (length bytes) 4)) [
  | inl short ↦ absurd (let wrong = rw short at shown in cc)
  | inr past ↦
      let four : 4 ≤ length bytes = ltb-false (length bytes) 4 past in
      let longer : ltb (length (bytes ++ more)) 4 ≡ false = le-ltb _ 4 (omega (arith, length-append bytes more)) in
      rw (longer, file_header_magic_stays bytes more four)
      (file_header_fields_fault_stays (order_of_magic bytes) bytes more fault (rw past at shown))
]
