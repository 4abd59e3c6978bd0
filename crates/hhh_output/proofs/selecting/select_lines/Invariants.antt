use Rattle.std.proofs.Common.{◌≡◌}
use Rattle.hhh_report.specs.{prefixes_of_lines}
use Rattle.hhh_output.specs.Selecting.{AreDownTo}
use Rattle.hhh_output.proofs.selecting.select_lines.Given as goal

abbrev pub invariant-loop-levels : goal.invariant-loop-levels
invariant-loop-levels l = record {
  grain : l.reported.grain ≡ l.merged.shape.grain;
  prefixes : l.reported.lines ≡ prefixes_of_lines l.lines;
  down : AreDownTo l.merged l.threshold l.levels l.lines;
}
