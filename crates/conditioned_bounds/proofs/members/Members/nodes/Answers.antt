use Rattle.std.proofs.Common.{◌≡◌, List, All, Contains, subst, sym}
use Rattle.prefix_lattice.specs.{NodeValue, PrefixValue, node_of_prefix, finest_grain}
use Rattle.conditioned_bounds.proofs.members.Members.nodes.Goals as goal

pub returns-clause-have : goal.returns-clause-have
returns-clause-have c =
    let Have : List NodeValue → List PrefixValue → Type 0 =
    λ at members. All (λ member. Contains at (node_of_prefix finest_grain member)) members in
    subst (Have c.as_slice.result.now) c.self.view_is
    (subst (λ at. Have at c.self.inside.prefixes.items) (sym c.as_slice.ensures.value) c.self.invariant.nodes)

pub returns-clause-finest : goal.returns-clause-finest
returns-clause-finest c =
    subst (All (λ node. node.grain ≡ finest_grain)) (sym c.as_slice.ensures.value) c.self.invariant.finest
