use Rattle.std.proofs.Common.{ap, sym, ◌∙◌, arith, subst}
use Rattle.position_words.specs.Words.{IsShardAtSome}
use Rattle.position_words.proofs.SeatLemmas.{seat_may_give_back, seat_shard_is_inside}
use Rattle.position_words.proofs.words.Words.store.Goals as goal

pub store-requires : goal.store-requires
store-requires c =
    let table = c.self.inside.table.shared in
    let ready = c.requires.ready in
    let opening = ap (λ w. w.opening) c.self.view_is in
    let of_shard = subst (λ shards. IsShardAtSome shards c.args.shard ready.state) (sym opening) ready.of_shard in (
      c.requires.id ∙ sym (ap (λ w. w.id) c.self.view_is),
      omega (arith, seat_shard_is_inside table.key.value.items c.args.shard ready.state of_shard, c.self.invariant.0),
      seat_may_give_back table.key.value.items table.table_id.slots c.args.seat.now.id c.args.shard c.args.position
          c.args.seat.now.me ready.state ready.live ready.slot of_shard ready.gives ready.at
          ready.within,
    )
