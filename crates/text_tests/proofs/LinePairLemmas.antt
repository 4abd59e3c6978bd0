-- A pair of lines, and one of positions, that meet what is asked of those of a report.
use Rattle.std.proofs.Common.{◌≡◌, ℕ, ◌≤◌, [], ◌∷◌, arith}
use Rattle.std.proofs.lemmas.List.Elements.{All-cons}
use Rattle.std.proofs.lemmas.List.Kept.{AllPairs-cons}
use Rattle.std.specs.declared.cmp.Ordering.TheVariants.{Less}
use Rattle.prefix_lattice.specs.{report_order}
use Rattle.hhh_report.specs.declared.line.Line.{Line}
use Rattle.hhh_report.specs.{AreReportLines}
use Rattle.report_text.specs.{ShowsPositions}

-- a line has its low at most at its high
abbrev IsOrderedInLinePair : Line → Type 0
IsOrderedInLinePair line = line.lo ≤ line.hi

-- a line comes before another in a report
abbrev PrecedesInLinePair : Line → Line → Type 0
PrecedesInLinePair line later = report_order line.prefix later.prefix ≡ Less

-- two lines are in order if the first comes before the second
pub line_pair_is_in_order : (line later : Line) → line.lo ≤ line.hi → later.lo ≤ later.hi
    → report_order line.prefix later.prefix ≡ Less → AreReportLines (line ∷ later ∷ [])
line_pair_is_in_order line later ordered later_ordered less = record {
  few = omega arith;
  ordered = All-cons IsOrderedInLinePair line (later ∷ []) ordered
      (All-cons IsOrderedInLinePair later [] later_ordered (λ place other within. absurd (omega arith)));
  rising = AllPairs-cons PrecedesInLinePair line (later ∷ [])
      (All-cons (PrecedesInLinePair line) later [] less (λ place other within. absurd (omega arith)))
      (λ place last other before within. absurd (omega arith));
}

-- two numbers of at most 16,777,216 are positions
pub pair_of_positions_is_shown : (first second : ℕ) → first ≤ 16777216 → second ≤ 16777216 → ShowsPositions (first ∷ second ∷ [])
pair_of_positions_is_shown first second first_within second_within = record {
  some = omega arith;
  few = omega arith;
  within = All-cons (λ (n : ℕ). n ≤ 16777216) first (second ∷ []) first_within
      (All-cons (λ (n : ℕ). n ≤ 16777216) second [] second_within (λ place other within. absurd (omega arith)));
}
