use Rattle.std.proofs.Common.{◌-◌, map, refl, arith}
use Rattle.key_index.specs.SortedPlaces.{standing}
use Rattle.key_index.proofs.OrderLemmas.{order_splits_at}
use Rattle.key_index.proofs.sorted_places.first_near.Goals as goal

pub returns-then-belongs_at-clause-splits : goal.returns-then-belongs_at-clause-splits
returns-then-belongs_at-clause-splits g c =
    λ rises. order_splits_at (map g.T.Keyed.key_of c.args.slots.now) c.args.listed.now (standing c.args.key c.args.place) c.args.near rises
    (omega arith) (λ some. omega arith) (λ inside. omega arith)

pub returns-then-belongs_at-2-clause-splits : goal.returns-then-belongs_at-2-clause-splits
returns-then-belongs_at-2-clause-splits g c =
    let at = c.args.near - 1 in
    let is = c.if-belongs_at-2.ensures in
    λ rises. order_splits_at (map g.T.Keyed.key_of c.args.slots.now) c.args.listed.now (standing c.args.key c.args.place) at rises
    (omega (arith, is.within refl)) (λ some. omega (arith, is.low refl some)) (λ inside. omega (arith, is.high refl inside))
