use Rattle.std.proofs.Common.{◌≡◌, All, subst, sym, ap, ◌∙◌}
use Rattle.prefix_lattice.specs.{PrefixValue, IsPrefix, closest, kept_pairs}
use Rattle.conditioned_bounds.specs.Bounds.{bound_of}
use Rattle.conditioned_bounds.proofs.BoundLemmas.{each_bound_part}
use Rattle.conditioned_bounds.proofs.bounds.bound.Goals as goal

pub parts_of-requires-clause-lines : goal.parts_of-requires-clause-lines
parts_of-requires-clause-lines g c =
    let Is : PrefixValue → Type 0 = IsPrefix (g.I.Intervals.grain_of c.args.intervals.now) in
    let near = closest c.args.prefix.now c.args.reported.now in
    let parts =
    each_bound_part Is c.args.prefix.now near (kept_pairs near)
    (c.only_prefixes_are_asked.ensures (g.I.Intervals.grain_of c.args.intervals.now) c.args.prefix.now
    c.args.reported.now
    c.requires.prefix c.requires.reported) in
    subst (All Is) (sym c.in_ok-lines.ensures) parts.lines

pub parts_of-requires-clause-meets : goal.parts_of-requires-clause-meets
parts_of-requires-clause-meets g c =
    let Is : PrefixValue → Type 0 = IsPrefix (g.I.Intervals.grain_of c.args.intervals.now) in
    let near = closest c.args.prefix.now c.args.reported.now in
    let parts =
    each_bound_part Is c.args.prefix.now near (kept_pairs near)
    (c.only_prefixes_are_asked.ensures (g.I.Intervals.grain_of c.args.intervals.now) c.args.prefix.now
    c.args.reported.now
    c.requires.prefix c.requires.reported) in
    subst (All Is) (sym (c.in_ok-meets.ensures ∙ ap kept_pairs c.in_ok-lines.ensures)) parts.meets

pub returns-clause-at_least : goal.returns-clause-at_least
returns-clause-at_least g c = λ records distinct holds.
    let low = g.I.Intervals.low c.args.intervals.now in
    let high = g.I.Intervals.high c.args.intervals.now in
    let value : c.parts_of.result.value ≡ bound_of low high c.args.prefix.now c.args.reported.now =
    cc (c.parts_of.ensures.value, c.in_ok-lines.ensures, c.in_ok-meets.ensures) in
    rw value (c.bounds_hold.ensures.at_least low high c.args.prefix.now c.args.reported.now records distinct holds)
