use Rattle.std.proofs.Common.{ap, sym, ◌∙◌, arith, length}
use Rattle.position_words.specs.declared.view.Aim.TheVariants.{Fold, Read}
use Rattle.position_words.proofs.AllowedStepLemmas.{take_step_is_allowed}
use Rattle.position_words.proofs.words.Words.mark.Goals as goal

pub fetch_or-requires : goal.fetch_or-requires
fetch_or-requires c =
    let table = c.self.inside.table.shared in
    let seat = c.args.seat.now in (
      c.requires.seat.id ∙ sym (ap (λ w. w.id) c.self.view_is),
      omega (arith, c.requires.within, ap (λ w. length w.opening) c.self.view_is, c.self.invariant.0),
      take_step_is_allowed table.key.value.items table.table_id.slots seat.id c.args.shard Fold seat.me
          (omega (arith, c.requires.within, ap (λ w. length w.opening) c.self.view_is))
          c.requires.seat.live c.requires.free,
    )

pub fetch_or-requires-in-Read : goal.fetch_or-requires-in-Read
fetch_or-requires-in-Read c =
    let table = c.self.inside.table.shared in
    let seat = c.args.seat.now in (
      c.requires.seat.id ∙ sym (ap (λ w. w.id) c.self.view_is),
      omega (arith, c.requires.within, ap (λ w. length w.opening) c.self.view_is, c.self.invariant.0),
      take_step_is_allowed table.key.value.items table.table_id.slots seat.id c.args.shard Read seat.me
          (omega (arith, c.requires.within, ap (λ w. length w.opening) c.self.view_is))
          c.requires.seat.live c.requires.free,
    )
