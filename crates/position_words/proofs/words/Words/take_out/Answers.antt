use Rattle.std.proofs.Common.{ap, sym, ◌∙◌, Some, ◌∷◌}
use Rattle.atomic_table.specs.Table.{rest}
use Rattle.position_words.proofs.words.Words.take_out.Goals as goal

pub exchange-requires : goal.exchange-requires
exchange-requires c =
    let taken = c.requires.taken in (
      c.requires.id ∙ sym (ap (λ w. w.id) c.self.view_is),
      (Some taken.state, taken.is ∙ ap (λ slots. (c.args.shard, Some taken.state) ∷ rest slots) (sym taken.is)),
    )
