use Rattle.std.proofs.Common.{arith, rules, map}
use Rattle.key_index.proofs.OrderLemmas.{order_finds_none}
use Rattle.key_index.proofs.sorted_places.find.Goals as goal

pub returns-clause-missing : goal.returns-clause-missing
returns-clause-missing g c =
    let keys = map g.T.Keyed.key_of c.args.slots.now in
    λ rises place is same.
    let ends = order_finds_none keys c.args.listed.now c.args.key c.first_from-at.result place rises (c.first_from-at.ensures.splits rises)
    (λ k d within. omega (arith, c.requires.places k d within)) is same in
    search (rules, ends.1)
