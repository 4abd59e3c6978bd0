use Rattle.std.proofs.Common.{List, ◌++◌, take}
use Rattle.prefix_lattice.specs.{PrefixValue, RecordValue}
use Rattle.exact_audit.specs.LineCodes.{AreLineCodes}
use Rattle.exact_audit.specs.NodeSums.{AreCountedIn}
use Rattle.exact_audit.proofs.counted.push_counted.Given as goal

-- the records so far are counted too
abbrev pub invariant-loop-rec : goal.invariant-loop-rec
invariant-loop-rec l = (prefixes : List PrefixValue) (before : List RecordValue) → AreLineCodes l.grain prefixes
    l.lines.codes.keys
    → AreCountedIn l.grain prefixes before l.initial.counted.items
    → AreCountedIn l.grain prefixes (before ++ take l.rec-index l.records) l.counted.items
