use Rattle.std.proofs.Common.{◌≡◌, ℕ, ◌+◌, ◌≤◌, false, List}
use Rattle.prefix_lattice.specs.{PrefixValue, grain_lengths}
use Rattle.exact_audit.specs.LineCodes.{AreLineCodes}
use Rattle.exact_audit.specs.Depths.{IsDepth, reaches}
use Rattle.exact_audit.proofs.depths.depth.Given as goal

-- no line reaches down to the destination steps looked at so far
abbrev pub invariant-loop-dest : goal.invariant-loop-dest
invariant-loop-dest l =
    (l.dest ≤ grain_lengths l.grain)
    × ((prefixes : List PrefixValue) → AreLineCodes l.grain prefixes l.lines.codes.keys
    → IsDepth l.grain prefixes l.rec (l.source + 1) l.below
    → (dest : ℕ) → l.dest ≤ dest → reaches l.grain prefixes l.rec l.source dest ≡ false)

abbrev pub decreases-loop-dest : goal.decreases-loop-dest
decreases-loop-dest l = l.dest
