use Rattle.std.proofs.Common.{◌≡◌, ◌<◌, ℕ, List, length, map, get_or, subst, sym, arith, rules}
use Rattle.std.specs.List.{remove, All}
use Rattle.key_index.specs.SortedPlaces.{standing, Rises, Splits, HasLess}
use Rattle.key_index.proofs.OrderLemmas.{order_after_remove, order_leads_to_place, order_all_below_less}
use Rattle.key_index.proofs.sorted_places.remove.Goals as goal

pub remove-requires : goal.remove-requires
remove-requires g c =
    let keys = map g.T.Keyed.key_of c.args.slots.now in
    let old = c.args.listed.now.items in
    let at = c.first_from-at.result in
    let splits : Splits keys old (standing (get_or keys c.args.place 0) c.args.place) at =
    subst (λ (xs : List ℕ). Rises keys xs → Splits keys xs (standing (get_or keys c.args.place 0) c.args.place) at) c.deref.ensures.value
    (subst (λ key. Rises keys c.deref.result.now → Splits keys c.deref.result.now (standing key c.args.place) at) c.key_at.ensures
    c.first_from-at.ensures.splits) c.requires.rises in
    let here = order_leads_to_place keys old c.args.place at c.requires.rises c.requires.listed splits
    (λ k d inside. omega (arith, c.requires.places k d inside)) in
    search (rules, here.0)

pub returns-clause-less : goal.returns-clause-less
returns-clause-less g c =
    let keys = map g.T.Keyed.key_of c.args.slots.now in
    let old = c.args.listed.now.items in
    let at = c.first_from-at.result in
    let is : c.remove.new.self.items ≡ remove old at = c.remove.ensures.items in
    let splits : Splits keys old (standing (get_or keys c.args.place 0) c.args.place) at =
    subst (λ (xs : List ℕ). Rises keys xs → Splits keys xs (standing (get_or keys c.args.place 0) c.args.place) at) c.deref.ensures.value
    (subst (λ key. Rises keys c.deref.result.now → Splits keys c.deref.result.now (standing key c.args.place) at) c.key_at.ensures
    c.first_from-at.ensures.splits) c.requires.rises in
    let here = order_leads_to_place keys old c.args.place at c.requires.rises c.requires.listed splits
    (λ k d inside. omega (arith, c.requires.places k d inside)) in
    subst (λ (xs : List ℕ). HasLess keys old xs c.args.place) (sym is)
    (order_after_remove keys old c.args.place at c.requires.rises here.0 here.1)

pub returns-clause-places : goal.returns-clause-places
returns-clause-places g c =
    let keys = map g.T.Keyed.key_of c.args.slots.now in
    let old = c.args.listed.now.items in
    let at = c.first_from-at.result in
    let is : c.remove.new.self.items ≡ remove old at = c.remove.ensures.items in
    let splits : Splits keys old (standing (get_or keys c.args.place 0) c.args.place) at =
    subst (λ (xs : List ℕ). Rises keys xs → Splits keys xs (standing (get_or keys c.args.place 0) c.args.place) at) c.deref.ensures.value
    (subst (λ key. Rises keys c.deref.result.now → Splits keys c.deref.result.now (standing key c.args.place) at) c.key_at.ensures
    c.first_from-at.ensures.splits) c.requires.rises in
    let here = order_leads_to_place keys old c.args.place at c.requires.rises c.requires.listed splits
    (λ k d inside. omega (arith, c.requires.places k d inside)) in
    subst (λ (xs : List ℕ). All (λ place. place < length c.args.slots.now) xs) (sym is)
    (order_all_below_less old at (length c.args.slots.now) here.0 c.requires.places)
