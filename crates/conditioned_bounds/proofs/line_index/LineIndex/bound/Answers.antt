use Rattle.std.proofs.Common.{◌≡◌, ◌≢◌, ◌<◌, length, All, AllPairs, ap, sym, ◌∙◌, subst, arith}
use Rattle.prefix_lattice.specs.{PrefixValue, IsPrefix, closest, kept_pairs}
use Rattle.conditioned_bounds.specs.Bounds.{bound_of}
use Rattle.conditioned_bounds.specs.LineIndex.{LineIndexValue}
use Rattle.conditioned_bounds.specs.Members.{member_limit}
use Rattle.conditioned_bounds.proofs.BoundLemmas.{each_bound_part}
use Rattle.conditioned_bounds.proofs.IndexLemmas.{index_closest_are_few}
use Rattle.conditioned_bounds.proofs.line_index.LineIndex.bound.Goals as goal

pub of-requires : goal.of-requires
of-requires g c =
    let few : length c.args.self.now.lines < member_limit =
    subst (λ (i : LineIndexValue). length i.lines < member_limit) c.self.view_is c.self.invariant.few in
    let same : length c.in_ok-lines.lines ≡ length (closest c.args.prefix.now c.args.self.now.lines) =
    ap length c.in_ok-lines.ensures in
    omega (arith, few, same, index_closest_are_few c.args.prefix.now c.args.self.now.lines)

pub parts_of-requires-clause-lines : goal.parts_of-requires-clause-lines
parts_of-requires-clause-lines g c =
    let prefix = c.args.prefix.now in
    let near = closest prefix c.args.self.now.lines in
    let Is : PrefixValue → Type 0 = IsPrefix c.args.self.now.grain in
    let all = subst (λ (i : LineIndexValue). All (IsPrefix i.grain) i.lines) c.self.view_is c.self.invariant.prefixes in
    let parts =
    each_bound_part Is prefix near (kept_pairs near)
    (c.only_prefixes_are_asked.ensures c.args.self.now.grain prefix c.args.self.now.lines c.requires.prefix all) in
    subst (λ grain. All (IsPrefix grain) c.in_ok-members.members) (sym c.requires.intervals)
    (subst (All Is) (sym (c.in_ok-members.ensures ∙ c.in_ok-lines.ensures)) parts.lines)

pub returns-clause-exact : goal.returns-clause-exact
returns-clause-exact g c = λ records exact.
    let low = g.I.Intervals.low c.args.intervals.now in
    let high = g.I.Intervals.high c.args.intervals.now in
    let value : c.parts_of.result.value ≡ bound_of low high c.args.prefix.now c.args.self.now.lines =
    cc (c.parts_of.ensures.value, c.in_ok-lines.ensures, c.in_ok-members.ensures) in
    let distinct = subst (λ (i : LineIndexValue). AllPairs
    (λ line other. line ≢ other) i.lines) c.self.view_is c.self.invariant.distinct in
    value ∙ c.bounds_hold.ensures.exact low high c.args.prefix.now c.args.self.now.lines records distinct exact

pub returns-clause-at_least : goal.returns-clause-at_least
returns-clause-at_least g c = λ records holds.
    let low = g.I.Intervals.low c.args.intervals.now in
    let high = g.I.Intervals.high c.args.intervals.now in
    let value : c.parts_of.result.value ≡ bound_of low high c.args.prefix.now c.args.self.now.lines =
    cc (c.parts_of.ensures.value, c.in_ok-lines.ensures, c.in_ok-members.ensures) in
    let distinct = subst (λ (i : LineIndexValue). AllPairs
    (λ line other. line ≢ other) i.lines) c.self.view_is c.self.invariant.distinct in
    rw value (c.bounds_hold.ensures.at_least low high c.args.prefix.now c.args.self.now.lines records distinct holds)

pub returns-clause-at_most : goal.returns-clause-at_most
returns-clause-at_most g c = λ records times whole holds narrow.
    let low = g.I.Intervals.low c.args.intervals.now in
    let high = g.I.Intervals.high c.args.intervals.now in
    let value : c.parts_of.result.value ≡ bound_of low high c.args.prefix.now c.args.self.now.lines =
    cc (c.parts_of.ensures.value, c.in_ok-lines.ensures, c.in_ok-members.ensures) in
    let distinct = subst (λ (i : LineIndexValue). AllPairs
    (λ line other. line ≢ other) i.lines) c.self.view_is c.self.invariant.distinct in
    let near : c.parts_of.result.closest ≡ length (closest c.args.prefix.now c.args.self.now.lines) =
    cc (c.parts_of.ensures.closest, c.in_ok-lines.ensures, c.in_ok-members.ensures) in
    let pairs : c.parts_of.result.pairs ≡ length (kept_pairs (closest c.args.prefix.now c.args.self.now.lines)) =
    cc (c.parts_of.ensures.pairs, c.in_ok-lines.ensures, c.in_ok-members.ensures) in
    rw (value, near, pairs)
    (c.bounds_hold.ensures.at_most low high c.args.prefix.now c.args.self.now.lines records times whole distinct holds
    narrow)
