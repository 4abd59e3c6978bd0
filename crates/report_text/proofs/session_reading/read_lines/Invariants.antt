use Rattle.std.proofs.Common.{◌-◌, length}
use Rattle.report_text.proofs.ListedLineLemmas.{AreListedLines}
use Rattle.report_text.proofs.session_reading.read_lines.Given as goal

-- the lines so far
abbrev pub invariant-lines : goal.invariant-lines
invariant-lines l = AreListedLines l.grain l.initial.lines l.lines l.listed l.last

-- the bytes after them
abbrev pub decreases-lines : goal.decreases-lines
decreases-lines l = length l.lines.text.now - l.lines.at
