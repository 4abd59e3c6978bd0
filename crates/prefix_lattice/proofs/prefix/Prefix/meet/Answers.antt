use Rattle.std.proofs.Common.{◌≡◌, ◌↔◌, true, Option, is_some, IsSomeAnd, sym, subst}
use Rattle.prefix_lattice.specs.Prefix.{PrefixValue}
use Rattle.prefix_lattice.specs.Lattice.{under}
use Rattle.prefix_lattice.specs.Meets.{AreOverlapping}
use Rattle.prefix_lattice.proofs.UnderMeetLemmas.{meet_under_both, meet-greatest, meet-some}
use Rattle.prefix_lattice.proofs.prefix.Prefix.meet.Goals as goal

pub returns-clause-under_both : goal.returns-clause-under_both
returns-clause-under_both c = meet_under_both c.args.self.now c.args.other.now c.lowest.result c.lowest.ensures.value

pub returns-clause-greatest : goal.returns-clause-greatest
returns-clause-greatest c = λ lower is_under under_other.
    subst (λ (o : Option PrefixValue). IsSomeAnd o (λ m. under lower m ≡ true)) (sym c.lowest.ensures.value)
    (meet-greatest c.args.self.now c.args.other.now lower is_under under_other)

pub returns-clause-some : goal.returns-clause-some
returns-clause-some c =
    subst (λ (o : Option PrefixValue). (is_some o ≡ true) ↔ AreOverlapping c.args.self.now c.args.other.now)
    (sym c.lowest.ensures.value)
    (meet-some c.args.self.now c.args.other.now c.lowest.ensures.prefix c.lowest.ensures.other)
