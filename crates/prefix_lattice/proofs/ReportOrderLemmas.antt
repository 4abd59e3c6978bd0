-- The order of a report is total, and only equal prefixes tie in it.
use Rattle.std.proofs.Common.{◌≡◌, ◌↔◌, ℕ, ◌+◌, length, refl, sym, ap, ◌∙◌, arith, Ordering}
use Rattle.std.specs.declared.cmp.Ordering.TheVariants.{Less, Equal, Greater}
use Rattle.std.specs.Cmp.{IsTotalOrder}
use Rattle.std.specs.Ordering.{nat_cmp, ordering_then}
use Rattle.std.proofs.lemmas.Cmp.{ranked, nat_cmp_total, on_total, then_total, back_total, tied_itself}
use Rattle.prefix_lattice.specs.Address.{address_of}
use Rattle.prefix_lattice.specs.Prefix.{PrefixValue, IsPrefix, prefix_level}
use Rattle.prefix_lattice.specs.ReportOrder.{report_order}
use Rattle.prefix_lattice.specs.declared.grain.Grain.{Grain}
use Rattle.prefix_lattice.proofs.AddressLemmas.{address_tells_leading_bits}
use Rattle.prefix_lattice.proofs.UnderMeetLemmas.{under_sides_tell_prefix}

pub report_order-total : IsTotalOrder report_order
report_order-total = then_total (back_total (on_total prefix_level nat_cmp_total))
    (then_total (on_total (λ (p : PrefixValue). address_of p.source) nat_cmp_total)
    (then_total (on_total (λ (p : PrefixValue). length p.source) nat_cmp_total)
    (on_total (λ (p : PrefixValue). address_of p.dest) nat_cmp_total)))

-- where one order after another ties, both tie
report_order-tied_parts : (first second : Ordering) → ordering_then first second ≡ Equal → (first ≡ Equal) × (second ≡ Equal)
report_order-tied_parts Less second tied = absurd (cc)
report_order-tied_parts Equal second tied = (refl, tied)
report_order-tied_parts Greater second tied = absurd (cc)

-- numbers that tie are the same
report_order-same_number : (x y : ℕ) → nat_cmp x y ≡ Equal → x ≡ y
report_order-same_number x y tied = ranked x y Equal (sym tied)

-- prefixes that tie in a report are the same
report_order-tied : {grain : Grain} (prefix other : PrefixValue) → IsPrefix grain prefix → IsPrefix grain other → report_order prefix other ≡ Equal
    → prefix ≡ other
report_order-tied prefix other valid other_valid tied =
    let by_level = report_order-tied_parts (nat_cmp (prefix_level other) (prefix_level prefix)) _ tied in
    let by_source = report_order-tied_parts (nat_cmp (address_of prefix.source) (address_of other.source)) _ by_level.1 in
    let by_length = report_order-tied_parts (nat_cmp (length prefix.source) (length other.source)) _ by_source.1 in
    let levels : length other.source + length other.dest ≡ length prefix.source + length prefix.dest =
    report_order-same_number _ _ by_level.0 in
    let lengths : length prefix.source ≡ length other.source = report_order-same_number _ _ by_length.0 in
    under_sides_tell_prefix prefix other
    (address_tells_leading_bits prefix.source other.source valid.source other_valid.source lengths (report_order-same_number _ _ by_source.0))
    (address_tells_leading_bits prefix.dest other.dest valid.dest other_valid.dest (omega arith) (report_order-same_number _ _ by_length.1))

pub report_order-apart : {grain : Grain} (prefix other : PrefixValue) → IsPrefix grain prefix → IsPrefix grain other
    → (report_order prefix other ≡ Equal) ↔ (prefix ≡ other)
report_order-apart prefix other valid other_valid = (
  report_order-tied prefix other valid other_valid,
  λ same. ap (report_order prefix) (sym same) ∙ tied_itself report_order-total prefix,
)
