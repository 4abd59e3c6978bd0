use Rattle.std.proofs.Common.{◌-◌, ◌/◌, subst, arith, rules, map}
use Rattle.key_index.specs.SortedPlaces.{standing}
use Rattle.key_index.proofs.OrderLemmas.{OrderLook, order_before_half, order_after_half}
use Rattle.key_index.proofs.sorted_places.first_from.Goals as goal

pub loop-size-preserved : goal.loop-size-preserved
loop-size-preserved g c =
    let listed = c.args.listed.now in
    let keys = map g.T.Keyed.key_of c.args.slots.now in
    let from = c.loop-size.from in
    let half = c.loop-size.size / 2 in
    let rest = c.loop-size.size - c.loop-size.size / 2 in
    let next = c.next_from-from.result in
    let look : OrderLook keys listed (standing c.args.key c.args.place) from half next =
    subst (λ n. OrderLook keys listed n from half next) c.standing_of-number.ensures c.next_from-from.ensures in
    record {
      within = search (rules, c.next_from-from.ensures);
      before = λ rises. order_before_half keys listed (standing c.args.key c.args.place) from half next rises (omega arith) (omega arith) look
          (c.loop-size.invariant.before rises);
      after = λ rises. order_after_half keys listed (standing c.args.key c.args.place) from half rest next rises (omega arith) (omega arith) look
          (λ index high within. c.loop-size.invariant.after rises index (omega arith) within);
    }
