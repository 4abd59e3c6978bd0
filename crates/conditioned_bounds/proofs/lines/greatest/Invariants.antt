use Rattle.std.proofs.Common.{◌≡◌, not, filter, take}
use Rattle.std.specs.List.{list_any}
use Rattle.prefix_lattice.specs.{strictly_under}
use Rattle.conditioned_bounds.proofs.lines.greatest.Given as goal

-- those of the members so far
abbrev pub invariant-loop-member : goal.invariant-loop-member
invariant-loop-member l =
    l.tops
    ≡ filter (λ member. not (list_any (λ other. strictly_under member other) l.members))
    (take l.member-index l.members)
