use Rattle.std.proofs.Common.{◌≡◌, ◌<◌, ◌≤◌, ℕ, List, length, map, get_or, subst, sym, arith, rules}
use Rattle.std.specs.List.{insert, All}
use Rattle.key_index.specs.SortedPlaces.{standing, Rises, Splits, HasMore}
use Rattle.key_index.proofs.OrderLemmas.{order_after_insert, order_all_below_more}
use Rattle.key_index.proofs.sorted_places.insert.Goals as goal

pub returns-clause-more : goal.returns-clause-more
returns-clause-more g c =
    let keys = map g.T.Keyed.key_of c.args.slots.now in
    let old = c.args.listed.now.items in
    let at = c.first_near-at.result in
    let is : c.insert.new.self.items ≡ insert old at c.args.place = search (rules, c.insert.ensures.items) in
    let within : at ≤ length old = search rules in
    let splits : Rises keys old → Splits keys old (standing (get_or keys c.args.place 0) c.args.place) at =
    subst (λ (xs : List ℕ). Rises keys xs → Splits keys xs (standing (get_or keys c.args.place 0) c.args.place) at) c.deref.ensures.value
    (subst (λ key. Rises keys c.deref.result.now → Splits keys c.deref.result.now (standing key c.args.place) at) c.key_at.ensures
    c.first_near-at.ensures.splits) in
    subst (λ (xs : List ℕ). HasMore keys old xs c.args.place) (sym is)
    (order_after_insert keys old c.args.place at within splits
    (λ k d inside. omega (arith, c.requires.places k d inside)) (omega arith))

pub returns-clause-places : goal.returns-clause-places
returns-clause-places g c =
    let old = c.args.listed.now.items in
    let at = c.first_near-at.result in
    let is : c.insert.new.self.items ≡ insert old at c.args.place = search (rules, c.insert.ensures.items) in
    subst (λ (xs : List ℕ). All (λ place. place < length c.args.slots.now) xs) (sym is)
    (order_all_below_more old c.args.place at (length c.args.slots.now) (search rules) c.requires.places c.requires.place)
