use Rattle.std.proofs.Common.{◌≡◌, ◌-◌, ◌≤◌, ◌<◌, ◌+◌, length}
use Rattle.std.specs.Io.KnownBytes.{Consumes}
use Rattle.report_text.specs.{longest_session}
use Rattle.session_audit.proofs.reading_text.read_text.Given as goal

-- what was read of the text so far, which isn't too long, without a fault
abbrev pub invariant-pieces : goal.invariant-pieces
invariant-pieces g l =
    Consumes (g.T.Source.left l.fn.source) (g.T.Source.left l.source) l.text.items
    × (length l.text.items ≤ longest_session + 1) × (0 < length l.buffer.items)
    × (g.T.Source.faults l.source ≡ g.T.Source.faults l.fn.source)

-- how much may still be read
abbrev pub decreases-pieces : goal.decreases-pieces
decreases-pieces g l = longest_session + 1 - length l.text.items
