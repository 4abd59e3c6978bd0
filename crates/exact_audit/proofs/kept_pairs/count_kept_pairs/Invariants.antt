use Rattle.std.proofs.Common.{◌≡◌, ◌+◌, ◌*◌, ◌≤◌, length, drop}
use Rattle.prefix_lattice.specs.{pair_meets, kept_pairs}
use Rattle.hhh_report.specs.{line_limit}
use Rattle.exact_audit.proofs.kept_pairs.count_kept_pairs.Given as goal

-- those of the first members so far, and those that are still to come
abbrev pub invariant-loop-place : goal.invariant-loop-place
invariant-loop-place l =
    (l.pairs + length (pair_meets l.members (drop l.place l.members)) ≡ length (kept_pairs l.members))
    × (l.pairs ≤ l.place * line_limit)
