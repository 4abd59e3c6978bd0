use Rattle.std.proofs.Common.{◌≡◌, not, filter, map, take}
use Rattle.std.specs.List.{list_any}
use Rattle.prefix_lattice.specs.{strictly_under, lines_under}
use Rattle.conditioned_bounds.specs.LineIndex.{indexed_line}
use Rattle.conditioned_bounds.proofs.line_index.LineIndex.closest.Given as goal

-- the closest of the lines of the numbers so far
abbrev pub invariant-loop-number : goal.invariant-loop-number
invariant-loop-number l =
    l.tops
    ≡ filter (λ line. not (list_any (λ other. strictly_under line other) (lines_under l.prefix l.self-inside.lines)))
    (map (indexed_line l.self-inside.lines) (take l.number-index l.number-items))
