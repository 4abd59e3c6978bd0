use Rattle.std.proofs.Common.{◌≡◌, ◌≤◌, ℕ, List, length, slice_index}
use Rattle.prefix_lattice.specs.{PrefixValue, grain_lengths}
use Rattle.exact_audit.specs.LineCodes.{AreLineCodes}
use Rattle.exact_audit.specs.Depths.{IsDepth, most_depths}
use Rattle.exact_audit.proofs.depths.Depths.of.Given as goal

-- the depths for the source steps looked at so far, down from one more than a prefix keeps
abbrev pub invariant-loop-source : goal.invariant-loop-source
invariant-loop-source l =
    (l.source ≤ grain_lengths l.grain) × (l.below ≤ grain_lengths l.grain)
    × (length l.by_steps ≡ most_depths) × (l.below ≡ slice_index l.by_steps l.source)
    × ((prefixes : List PrefixValue) → AreLineCodes l.grain prefixes l.lines.codes.keys
    → (source : ℕ) → l.source ≤ source → source ≤ grain_lengths l.grain
    → IsDepth l.grain prefixes l.rec source (slice_index l.by_steps source))

abbrev pub decreases-loop-source : goal.decreases-loop-source
decreases-loop-source l = l.source
