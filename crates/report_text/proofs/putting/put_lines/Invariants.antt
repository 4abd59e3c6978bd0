use Rattle.std.proofs.Common.{◌≡◌, ◌≤◌, ◌+◌, ◌*◌, ◌++◌, take, vec_len, vec_capacity}
use Rattle.report_text.specs.Printing.{lines_text}
use Rattle.report_text.proofs.putting.put_lines.Given as goal

-- the lines so far, each in 85 bytes at most
abbrev pub invariant-loop-line : goal.invariant-loop-line
invariant-loop-line l = record {
  text : l.text.items ≡ l.initial.text.items ++ lines_text (take l.line-index l.lines);
  length : vec_len l.text ≤ vec_len l.initial.text + 85 * l.line-index;
  room : vec_capacity l.initial.text ≤ vec_capacity l.text;
}
