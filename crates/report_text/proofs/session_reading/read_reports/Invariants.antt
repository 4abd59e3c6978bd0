use Rattle.std.proofs.Common.{◌-◌, ◌++◌, [], ◌∷◌, length}
use Rattle.std.specs.List.{flat_map}
use Rattle.report_text.specs.Session.{reported_lines}
use Rattle.report_text.specs.Stages.{opened, begun}
use Rattle.report_text.specs.LineCursor.{ReadsLines}
use Rattle.report_text.specs.declared.session_line.SessionLine.TheVariants.{Report}
use Rattle.report_text.proofs.session_reading.read_reports.Given as goal

-- the reports so far, and the first line of the next
abbrev pub invariant-reports : goal.invariant-reports
invariant-reports l =
    ReadsLines l.grain l.fn.lines l.lines (flat_map reported_lines l.reports ++ Report ∷ []) (opened l.shards) (begun l.shards)

-- the bytes after them
abbrev pub decreases-reports : goal.decreases-reports
decreases-reports l = length l.lines.text.now - l.lines.at
