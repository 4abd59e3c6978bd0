use Rattle.std.proofs.Common.{◌≡◌, ◌≤◌, ◌<◌, ◌++◌, ℕ, All, map, decimal, length}
use Rattle.report_text.specs.Stages.{words_in}
use Rattle.report_text.proofs.line_reading.positions_of.Given as goal

-- the first words spell the positions so far
abbrev pub invariant-loop-cut : goal.invariant-loop-cut
invariant-loop-cut l = record {
  words : words_in l.text ≡ map decimal l.positions ++ words_in l.rest;
  few : length l.positions < 16;
  within : All (λ (position : ℕ). position ≤ 16777216) l.positions;
}

abbrev pub decreases-loop-cut : goal.decreases-loop-cut
decreases-loop-cut l = length l.rest
