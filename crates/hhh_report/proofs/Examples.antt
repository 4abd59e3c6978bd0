-- Worked examples of positions, thresholds, lines, reports and their tests, most by computing.
use Rattle.std.proofs.Common.{◌≡◌, ℕ, ◌*◌, ◌≤◌, ◌<◌, List, [], ◌∷◌, length, Contains, Bool, true, false}
use Rattle.std.proofs.Common.{eqb, refl, ap, ◌∙◌, arith}
use Rattle.std.proofs.lemmas.Bool.{and_parts, eqb-true, false≢true}
use Rattle.std.proofs.lemmas.List.Elements.{All-nil, All-cons}
use Rattle.std.proofs.lemmas.List.Kept.{AllPairs-cons}
use Rattle.std.specs.declared.cmp.Ordering.{Ordering}
use Rattle.std.specs.declared.cmp.Ordering.TheVariants.{Less, Equal, Greater}
use Rattle.prefix_lattice.specs.{address_bits}
use Rattle.prefix_lattice.specs.declared.grain.Grain.TheVariants.{Byte}
use Rattle.prefix_lattice.proofs.Examples.{front, leading_bits_of_an_address}
use Rattle.prefix_lattice.specs.{RecordValue, begins_with, PrefixValue, IsPrefix, covers}
use Rattle.prefix_lattice.specs.{prefix_weight, under, report_order, conditioned_weight}
use Rattle.hhh_report.specs.Positions.{AreNotPast, records_before}
use Rattle.hhh_report.specs.Lines.{prefixes_of_lines, line_limit, AreOfGrain, AreReportLines}
use Rattle.hhh_report.specs.Report.{IsSameReport}
use Rattle.hhh_report.specs.SoundReport.{LineHoldsWeight, IsNarrowLine, IsJustified}
use Rattle.hhh_report.specs.SoundReport.{IsSound}
use Rattle.hhh_report.specs.Thresholds.{IsHeavy, IsThreshold, million}
use Rattle.hhh_report.specs.declared.line.Line.{Line}
use Rattle.hhh_report.specs.declared.report.Report.{Report}

-- packets from N.0.0.1 to (100 + N).0.0.1, N being 1 and 2
abbrev x : RecordValue
x = record { src = 0x01000001; dst = 0x65000001; weight = 1 }

abbrev u : RecordValue
u = record { src = 0x02000001; dst = 0x66000001; weight = 1 }

pub before_two_and_one : records_before ((x ∷ x ∷ x ∷ u ∷ []) ∷ (u ∷ u ∷ []) ∷ []) (2 ∷ 1 ∷ []) ≡ x ∷ x ∷ u ∷ []
before_two_and_one = refl

pub positions_of_two_shards_not_past : AreNotPast (1 ∷ 2 ∷ []) (1 ∷ 3 ∷ [])
positions_of_two_shards_not_past = (omega arith, omega arith)

pub one_shard_past : ¬ AreNotPast (1 ∷ 3 ∷ []) (2 ∷ 2 ∷ [])
one_shard_past order = omega (arith, order.1.0)

-- 25 nodes with 128 * 4096 lines each
pub lines_of_all_nodes_are_below_the_limit : 25 * (128 * 4096) < line_limit
lines_of_all_nodes_are_below_the_limit = omega arith

pub two_of_101_are_a_hundredth : IsHeavy 10000 101 2
two_of_101_are_a_hundredth = record { some = omega arith; share = omega arith }

pub one_of_101_is_not : ¬ IsHeavy 10000 101 1
one_of_101_is_not heavy = omega (arith, heavy.share)

-- for a share of a hundredth and a total of 101 the threshold is 2
pub threshold_of_a_hundredth : IsThreshold 10000 101 2
threshold_of_a_hundredth = record {
  heavy = record { some = omega arith; share = omega arith };
  least = λ weight heavy. omega (arith, heavy.some, heavy.share);
}

-- for a total of 0 the threshold is 1
pub threshold_of_nothing : IsThreshold 10000 0 1
threshold_of_nothing = record {
  heavy = record { some = omega arith; share = omega arith };
  least = λ weight heavy. heavy.some;
}

-- the whole, in parts per million
pub whole_in_parts : IsHeavy million 7 7
whole_in_parts = record { some = omega arith; share = omega arith }

-- for a share of the whole the threshold is the total
pub threshold_of_the_whole : IsThreshold 1000000 7 7
threshold_of_the_whole = record {
  heavy = record { some = omega arith; share = omega arith };
  least = λ weight heavy. omega (arith, heavy.share);
}

-- 100 bytes from 10.1.2.3 to 20.1.2.3
abbrev packet : RecordValue
packet = record { src = 0x0a010203; dst = 0x14010203; weight = 100 }

-- 10.0.0.0/8 20.0.0.0/8
abbrev prefix : PrefixValue
prefix = record { source = front 0x0a000000 8; dest = front 0x14000000 8 }

abbrev line : Line
line = record { prefix = prefix; lo = 100; hi = 100 }

pub prefixes_of_a_line : prefixes_of_lines (line ∷ []) ≡ prefix ∷ []
prefixes_of_a_line = refl

-- the interval of the line holds the weight of its prefix, and its width is 0
pub weight_that_is_held : LineHoldsWeight (packet ∷ []) line
weight_that_is_held =
    let weight : prefix_weight prefix (packet ∷ []) ≡ 100 = refl in
    record { low = omega (arith, weight); high = omega (arith, weight) }

pub narrow_line : IsNarrowLine 512 100 line
narrow_line = omega arith

-- what the line explains no longer counts for the prefixes above it
pub explained_weight : conditioned_weight (record { source = []; dest = [] }) (prefix ∷ []) (packet ∷ []) ≡ 0
explained_weight = refl

-- 0.0.0.0/0 0.0.0.0/0
abbrev root : PrefixValue
root = record { source = []; dest = [] }

-- 10.1.2.3/32 20.1.2.3/32, which is the packet's own
abbrev whole : PrefixValue
whole = record { source = address_bits 0x0a010203; dest = address_bits 0x14010203 }

pub whole_is_prefix : IsPrefix Byte whole
whole_is_prefix = record {
  source = leading_bits_of_an_address 0x0a010203 32 (omega arith);
  dest = leading_bits_of_an_address 0x14010203 32 (omega arith);
  source_steps = refl;
  dest_steps = refl;
}

-- the lines of the packet's own prefix and of the root
abbrev own : Line
own = record { prefix = whole; lo = 100; hi = 100 }

abbrev of_all : Line
of_all = record { prefix = root; lo = 100; hi = 100 }

pub lines_by_bytes : AreOfGrain Byte (own ∷ [])
lines_by_bytes = All-cons (λ (line : Line). IsPrefix Byte line.prefix) own [] whole_is_prefix
    (All-nil (λ (line : Line). IsPrefix Byte line.prefix))

-- a line comes before another in a report
abbrev Precedes : Line → Line → Type 0
Precedes line later = report_order line.prefix later.prefix ≡ Less

pub no_lines : AreReportLines []
no_lines = record {
  few = omega arith;
  ordered = λ place other within. absurd (omega arith);
  rising = λ place later other before within. absurd (omega arith);
}

pub own_alone : AreReportLines (own ∷ [])
own_alone = record {
  few = omega arith;
  ordered = All-cons (λ (line : Line). line.lo ≤ line.hi) own [] (omega arith) no_lines.ordered;
  rising = AllPairs-cons Precedes own [] (All-nil (Precedes own)) no_lines.rising;
}

pub lines_of_greater_level_come_first : AreReportLines (own ∷ of_all ∷ [])
lines_of_greater_level_come_first = record {
  few = omega arith;
  ordered =
      All-cons (λ (line : Line). line.lo ≤ line.hi) own (of_all ∷ []) (omega arith)
      (All-cons (λ (line : Line). line.lo ≤ line.hi) of_all [] (omega arith) no_lines.ordered);
  rising = AllPairs-cons Precedes own (of_all ∷ []) (All-cons (Precedes own) of_all [] refl (All-nil (Precedes own)))
      (AllPairs-cons Precedes of_all [] (All-nil (Precedes of_all)) no_lines.rising);
}

-- whether an order is the one of two lines that follow one another
abbrev is_less : Ordering → Bool
is_less Less = true
is_less Equal = false
is_less Greater = false

pub lines_of_lower_level_do_not : ¬ AreReportLines (of_all ∷ own ∷ [])
lines_of_lower_level_do_not lines = false≢true (ap is_less (lines.rising 0 1 own (omega arith) (omega arith)))

pub no_prefix_has_two_lines : ¬ AreReportLines (own ∷ own ∷ [])
no_prefix_has_two_lines lines = false≢true (ap is_less (lines.rising 0 1 own (omega arith) (omega arith)))

-- the report of the cut, and one that shows nothing
abbrev told : Report
told = record { positions = 1 ∷ []; total = 100; threshold = 1; lines = own ∷ []; are_lines = own_alone }

abbrev silent : Report
silent = record { positions = 1 ∷ []; total = 100; threshold = 1; lines = []; are_lines = no_lines }

pub reports_that_show_the_same : IsSameReport told told
reports_that_show_the_same = record { positions = refl; total = refl; threshold = refl; lines = refl }

pub reports_with_other_lines : ¬ IsSameReport told silent
reports_with_other_lines same = let count : 1 ≡ 0 = ap length same.lines in omega (arith, count)

-- two lists that begin each other are the same
both_begin : (bits other : List ℕ) → begins_with bits other ≡ true → begins_with other bits ≡ true → bits ≡ other
both_begin [] [] begins begun = refl
both_begin [] (first ∷ rest) begins begun = absurd (false≢true begins)
both_begin (bit ∷ bits) [] begins begun = absurd (false≢true begun)
both_begin (bit ∷ bits) (first ∷ rest) begins begun =
    let parts = and_parts (eqb bit first) (begins_with bits rest) begins in
    let other = and_parts (eqb first bit) (begins_with rest bits) begun in
    ap (λ head. head ∷ bits) (eqb-true bit first parts.0)
    ∙ ap (λ tail. first ∷ tail) (both_begin bits rest parts.1 other.1)

-- a prefix that covers the packet and isn't its own is above its own, so the line explains the packet
explained : (prefix : PrefixValue) → ¬ Contains (whole ∷ []) prefix
    → conditioned_weight prefix (whole ∷ []) (packet ∷ []) < 1
explained prefix missing = by_cover (covers prefix packet) refl (under prefix whole) refl
  where
    by_cover : (covered : Bool) → covers prefix packet ≡ covered → (below : Bool) → under prefix whole ≡ below
        → conditioned_weight prefix (whole ∷ []) (packet ∷ []) < 1
    by_cover false covered below is = rw covered (omega arith)
    by_cover true covered false is = rw (covered, is) (omega arith)
    by_cover true covered true is =
        let above = and_parts (begins_with whole.source prefix.source) (begins_with whole.dest prefix.dest) covered in
        let below = and_parts (begins_with prefix.source whole.source) (begins_with prefix.dest whole.dest) is in
        let same : whole ≡ prefix =
        ap (λ source. record { source = source; dest = whole.dest })
        (both_begin whole.source prefix.source above.0 below.0)
        ∙ ap (λ dest. record { source = prefix.source; dest = dest })
        (both_begin whole.dest prefix.dest above.1 below.1) in
        absurd (missing (0, omega arith, same))

pub justified_by_its_weight : IsJustified 4 1 (whole ∷ []) (packet ∷ []) own
justified_by_its_weight = let enough : 4 ≤ 500 = omega arith in enough

-- the root's conditioned weight is 0, and two intervals of width at most 100/512 don't reach a threshold of 1
pub not_justified_beside_the_line : ¬ IsJustified 512 1 (whole ∷ root ∷ []) (packet ∷ []) of_all
not_justified_beside_the_line justified = let most : 512 ≤ 200 = justified in omega (arith, most)

pub told_is_sound : IsSound Byte told ((packet ∷ []) ∷ []) 4 10000
told_is_sound = record {
  positions = (omega arith, tt);
  total = refl;
  threshold = record { heavy = record { some = omega arith; share = omega arith }; least = λ weight heavy. heavy.some };
  interval =
      let weight : prefix_weight whole (packet ∷ []) ≡ 100 = refl in
      All-cons (LineHoldsWeight (packet ∷ [])) own []
      (record { low = omega (arith, weight); high = omega (arith, weight) })
      (All-nil (LineHoldsWeight (packet ∷ [])));
  width = All-cons (IsNarrowLine 4 100) own [] (omega arith) (All-nil (IsNarrowLine 4 100));
  heavy = All-cons (λ (line : Line). 1 ≤ line.hi) own [] (omega arith) (All-nil (λ (line : Line). 1 ≤ line.hi));
  justified =
      All-cons (IsJustified 4 1 (whole ∷ []) (packet ∷ [])) own [] justified_by_its_weight
      (All-nil (IsJustified 4 1 (whole ∷ []) (packet ∷ [])));
  complete = λ prefix is_prefix missing. explained prefix missing;
}

pub silence_is_unsound : ¬ IsSound Byte silent ((packet ∷ []) ∷ []) 4 10000
silence_is_unsound sound =
    let left : 100 < 1 = sound.complete whole whole_is_prefix (λ inside. omega (arith, inside.1)) in
    omega (arith, left)

-- a report with one position is not sound over two lists
pub told_of_one_packet_alone : ¬ IsSound Byte told ((packet ∷ []) ∷ (packet ∷ []) ∷ []) 4 10000
told_of_one_packet_alone sound = sound.positions.1
