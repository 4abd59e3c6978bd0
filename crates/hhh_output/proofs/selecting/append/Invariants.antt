use Rattle.std.proofs.Common.{◌≡◌, ◌++◌, take}
use Rattle.hhh_report.specs.{prefixes_of_lines}
use Rattle.hhh_output.proofs.selecting.append.Given as goal

abbrev pub invariant-loop-line : goal.invariant-loop-line
invariant-loop-line l = record {
  lines : l.lines ≡ l.initial.lines ++ take l.line-index l.found;
  grain : l.reported.grain ≡ l.initial.reported.grain;
  prefixes : l.reported.lines ≡ l.initial.reported.lines ++ prefixes_of_lines (take l.line-index l.found);
}
