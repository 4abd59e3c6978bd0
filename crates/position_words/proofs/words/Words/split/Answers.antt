use Rattle.std.proofs.Common.{ap, sym, ◌∙◌, arith}
use Rattle.position_words.proofs.AllowedStepLemmas.{split_step_is_allowed}
use Rattle.position_words.proofs.words.Words.split.Goals as goal

pub split_seat-requires : goal.split_seat-requires
split_seat-requires c =
    let table = c.self.inside.table.shared in
    let seat = c.args.seat.now in (
      c.requires.seat.id ∙ sym (ap (λ w. w.id) c.self.view_is),
      omega (arith, c.self.invariant.0, c.self.invariant.2.some),
      split_step_is_allowed table.key.value.items seat.id seat.me.0 c.requires.seat.live,
    )
