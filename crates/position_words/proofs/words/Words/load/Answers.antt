use Rattle.std.proofs.Common.{ap, sym, ◌∙◌, arith, length}
use Rattle.position_words.proofs.AllowedStepLemmas.{look_step_is_allowed}
use Rattle.position_words.proofs.words.Words.load.Goals as goal

pub load-requires : goal.load-requires
load-requires c =
    let table = c.self.inside.table.shared in
    let seat = c.args.seat.now in (
      c.requires.seat.id ∙ sym (ap (λ w. w.id) c.self.view_is),
      omega (arith, c.requires.within, ap (λ w. length w.opening) c.self.view_is, c.self.invariant.0),
      look_step_is_allowed table.key.value.items table.table_id.slots seat.id c.args.shard seat.me c.requires.seat.live,
    )
