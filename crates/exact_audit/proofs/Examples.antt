-- Worked examples of audits, most by computing: one packet of 100 bytes from 10.1.2.3 to 20.1.2.3, and its reports.
use Rattle.std.proofs.Common.{◌≡◌, ℕ, ◌≤◌, List, [], ◌∷◌}
use Rattle.std.proofs.Common.{Some}
use Rattle.std.proofs.Common.{true, false, refl, arith}
use Rattle.std.proofs.lemmas.List.Elements.{All-nil, All-cons}
use Rattle.prefix_lattice.specs.{RecordValue, NodeValue, PrefixValue, IsPrefix, one_line_covers, lines_under}
use Rattle.prefix_lattice.specs.{prefix_key, address_bits}
use Rattle.prefix_lattice.specs.declared.grain.Grain.TheVariants.{Byte, Nibble}
use Rattle.prefix_lattice.proofs.Examples.{front, leading_bits_of_an_address}
use Rattle.hhh_report.specs.declared.line.Line.{Line}
use Rattle.hhh_report.specs.declared.report.Report.{Report}
use Rattle.hhh_report.specs.{AreReportLines, LineHoldsWeight, IsThreshold}
use Rattle.exact_audit.specs.declared.depths.Depths.{Depths}
use Rattle.exact_audit.specs.declared.counted.Counted.{Counted}
use Rattle.exact_audit.specs.declared.left_out.LeftOut.{LeftOut}
use Rattle.exact_audit.specs.declared.verdict.Verdict.TheVariants.{BadPositions, BadTotal, BadThreshold, BadInterval}
use Rattle.exact_audit.specs.LeftOut.{IsLeftOut}
use Rattle.exact_audit.specs.Verdict.{IsVerdict}
use Rattle.exact_audit.specs.Depths.{reaches, explained_by}
use Rattle.exact_audit.specs.NodeSums.{sum_weight, sum_left}
use Rattle.exact_audit.specs.Findings.{first_with}

abbrev packet : RecordValue
packet = record { src = 0x0a010203; dst = 0x14010203; weight = 100 }

-- 10.1.2.3/32 20.1.2.3/32
abbrev whole : PrefixValue
whole = record { source = address_bits 0x0a010203; dest = address_bits 0x14010203 }

abbrev root : PrefixValue
root = record { source = []; dest = [] }

abbrev root_node : NodeValue
root_node = record { grain = Byte; source_bits = 0; dest_bits = 0 }

abbrev host_node : NodeValue
host_node = record { grain = Byte; source_bits = 32; dest_bits = 32 }

-- a line of the whole prefix, and one with another interval
abbrev own : Line
own = record { prefix = whole; lo = 100; hi = 100 }

abbrev light : Line
light = record { prefix = whole; lo = 99; hi = 99 }

-- one line is in order
pub one_line : (line : Line) → line.lo ≤ line.hi → AreReportLines (line ∷ [])
one_line line ordered = record {
  few = omega arith;
  ordered = All-cons (λ (l : Line). l.lo ≤ l.hi) line [] ordered (All-nil (λ (l : Line). l.lo ≤ l.hi));
  rising = λ place later other before within. absurd (omega arith);
}

abbrev report_with : ℕ → ℕ → ℕ → (line : Line) → line.lo ≤ line.hi → Report
report_with position total threshold line ordered = record {
  positions = position ∷ [];
  total = total;
  threshold = threshold;
  lines = line ∷ [];
  are_lines = one_line line ordered;
}

abbrev dealt : List (List RecordValue)
dealt = (packet ∷ []) ∷ []

pub two_records_of_one : IsVerdict Byte dealt 512 10000 (report_with 2 100 1 own (omega arith)) BadPositions
two_records_of_one = λ within. omega (arith, within.0)

pub a_total_too_small : IsVerdict Byte dealt 512 10000 (report_with 1 99 1 own (omega arith)) BadTotal
a_total_too_small = ((omega arith, tt), λ same. omega (arith, same))

pub a_threshold_too_high : IsVerdict Byte dealt 512 10000 (report_with 1 100 2 own (omega arith)) BadThreshold
a_threshold_too_high = (
  (omega arith, tt),
  refl,
  λ (is : IsThreshold 10000 100 2).
      omega (arith, is.least 1 (record { some = omega arith; share = omega arith })),
)

pub an_interval_below_the_weight : IsVerdict Byte dealt 512 10000 (report_with 1 100 1 light (omega arith)) (BadInterval 1)
an_interval_below_the_weight = record {
  head = record {
    positions = (omega arith, tt);
    total = refl;
    threshold = record {
      heavy = record { some = omega arith; share = omega arith };
      least = λ weight heavy. heavy.some;
    };
  };
  lines = record {
    before = 0;
    counted = refl;
    line = light;
    is = refl;
    fails = λ holds. omega (arith, holds.high);
    passed = All-nil (LineHoldsWeight (packet ∷ []));
  };
}

pub whole_is_prefix : IsPrefix Byte whole
whole_is_prefix = record {
  source = leading_bits_of_an_address 0x0a010203 32 (omega arith);
  dest = leading_bits_of_an_address 0x14010203 32 (omega arith);
  source_steps = refl;
  dest_steps = refl;
}

-- without its line the packet's own prefix is left out with all of its weight
pub own_prefix_is_left_out : IsLeftOut Byte [] (packet ∷ []) 1 whole 100
own_prefix_is_left_out = record {
  is_prefix = whole_is_prefix;
  no_line = λ there. omega (arith, there.1);
  weighs = refl;
  heavy = omega arith;
}

-- with it, it isn't
pub no_line_is_left_out : ¬ IsLeftOut Byte (whole ∷ []) (packet ∷ []) 1 whole 100
no_line_is_left_out out = out.no_line (0, omega arith, refl)

-- the line reaches down to four steps of a byte on both sides, and no further
pub the_line_reaches_the_hosts : reaches Byte (whole ∷ []) packet 4 4 ≡ true
the_line_reaches_the_hosts = refl

pub but_no_further : reaches Byte (whole ∷ []) packet 4 5 ≡ false
but_no_further = refl

-- by half bytes, to eight
pub the_line_reaches_by_half_bytes : reaches Nibble (whole ∷ []) packet 8 8 ≡ true
the_line_reaches_by_half_bytes = refl

-- so by bytes each depth is 5
abbrev deep : Depths
deep = record { by_steps = 5 ∷ 5 ∷ 5 ∷ 5 ∷ 5 ∷ 0 ∷ 0 ∷ 0 ∷ 0 ∷ 0 ∷ [] }

pub the_root_is_explained : explained_by deep root_node ≡ true
the_root_is_explained = refl

pub as_the_definition_says : one_line_covers (lines_under root (whole ∷ [])) packet ≡ true
as_the_definition_says = refl

-- a line doesn't explain its own prefix
pub the_line_itself_is_not : explained_by deep host_node ≡ false
the_line_itself_is_not = refl

abbrev counted : List Counted
counted = record { rec = packet; depths = deep } ∷ []

pub all_weight_is_at_the_root : sum_weight root_node 0 counted ≡ 100
all_weight_is_at_the_root = refl

pub none_of_it_is_left : sum_left root_node 0 counted ≡ 0
none_of_it_is_left = refl

pub all_of_it_is_left_to_the_line : sum_left host_node (prefix_key whole) counted ≡ 100
all_of_it_is_left_to_the_line = refl

-- 10.0.0.0/12 20.1.2.3/32, which is a prefix by half bytes, and none by bytes
abbrev half : PrefixValue
half = record { source = front 0x0a000000 12; dest = address_bits 0x14010203 }

pub half_is_prefix : IsPrefix Nibble half
half_is_prefix = record {
  source = leading_bits_of_an_address 0x0a000000 12 (omega arith);
  dest = leading_bits_of_an_address 0x14010203 32 (omega arith);
  source_steps = refl;
  dest_steps = refl;
}

pub half_is_left_out : IsLeftOut Nibble [] (packet ∷ []) 1 half 100
half_is_left_out = record {
  is_prefix = half_is_prefix;
  no_line = λ there. omega (arith, there.1);
  weighs = refl;
  heavy = omega arith;
}

pub but_not_by_bytes : ¬ IsLeftOut Byte [] (packet ∷ []) 1 half 100
but_not_by_bytes out = omega (arith, out.is_prefix.source_steps)

-- a more specific prefix comes first, whichever was found first
abbrev at_root : LeftOut
at_root = record { prefix = root; weight = 100 }

abbrev at_host : LeftOut
at_host = record { prefix = whole; weight = 100 }

pub the_host_comes_first : first_with (Some at_root) at_host ≡ at_host
the_host_comes_first = refl

pub and_stays_first : first_with (Some at_host) at_root ≡ at_host
and_stays_first = refl
