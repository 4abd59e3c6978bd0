use Rattle.std.proofs.Common.{sym, ap, ◌∙◌, subst}
use Rattle.shard_state.specs.Snapshot.{SnapshotValue, IsSnapshot}
use Rattle.shard_state.specs.Cut.{CutValue}
use Rattle.shard_state.proofs.CutSnapshotLemmas.{IsCut-set_snapshot}
use Rattle.shard_state.proofs.cut.Cut.copy_shard.Goals as goal

pub invariant_of-self : goal.invariant_of-self
invariant_of-self c =
    let inside : CutValue = record { shape = record { grain = c.self.inside.grain; capacity = c.self.inside.capacity }; shards = c.self.inside.shards.items } in
    IsCut-set_snapshot inside c.args.shard c.copy_into.new.into c.self.invariant
    (subst IsSnapshot (sym c.copy_into.ensures) c.position-kept.ensures.kept.tables)
    (ap (λ (s : SnapshotValue). s.shape) c.copy_into.ensures ∙ c.requires.shape ∙ ap (λ (cut : CutValue). cut.shape) (sym c.self.view_is))
