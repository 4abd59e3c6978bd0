use Rattle.std.proofs.Common.{sym, ap, ◌∙◌}
use Rattle.shard_state.specs.Cut.{CutValue}
use Rattle.shard_state.proofs.CutSnapshotLemmas.{IsCut-set_snapshot}
use Rattle.shard_state.proofs.cut.Cut.put_shard.Goals as goal

pub invariant_of-self : goal.invariant_of-self
invariant_of-self c =
    let inside : CutValue = record { shape = record { grain = c.self.inside.grain; capacity = c.self.inside.capacity }; shards = c.self.inside.shards.items } in
    IsCut-set_snapshot inside c.args.shard c.args.snapshot c.self.invariant c.position-kept.ensures.kept
    (c.requires.shape ∙ ap (λ (cut : CutValue). cut.shape) (sym c.self.view_is))
