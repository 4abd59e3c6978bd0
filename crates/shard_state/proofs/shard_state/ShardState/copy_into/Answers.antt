use Rattle.std.proofs.Common.{◌≡◌, refl, ap, sym, ◌∙◌, subst}
use Rattle.std.proofs.lemmas.List.Elements.{All-same, All-map}
use Rattle.space_saving.specs.{TableValue}
use Rattle.shard_state.specs.Snapshot.{IsSnapshot, tables_of, copied_from, TableShape}
use Rattle.shard_state.specs.ShardState.{ShardValue, snapshot_of}
use Rattle.shard_state.proofs.SnapshotPartLemmas.{snapshot_part_with_entries}
use Rattle.shard_state.proofs.ShardStateLemmas.{shard_state_copy_is_same}
use Rattle.shard_state.proofs.shard_state.ShardState.copy_into.Goals as goal

-- the snapshot has the shape of the shard
same_shape : (c : goal.After-deref) → c.args.into.now.shape ≡ c.self.inside.base.shape
same_shape c = c.requires ∙ ap (λ (s : ShardValue). s.base.shape) (sym c.self.view_is)

pub copy_from-requires-clause-alike : goal.copy_from-requires-clause-alike
copy_from-requires-clause-alike c =
    let shard : ShardValue = record { list = c.self.inside.list; base = c.self.inside.base; position = c.self.inside.position } in
    All-same (λ (t : TableValue). t.capacity ≡ c.args.into.now.shape.capacity) c.deref.result.now
    (tables_of (snapshot_of shard)) (c.deref.ensures.value ∙ c.self.invariant.1)
    (All-map (λ (t : TableValue). t.capacity ≡ c.args.into.now.shape.capacity) (snapshot_part_with_entries shard.base.shape.capacity)
    (snapshot_of shard).tables (λ _ _ _. sym (ap (λ (s : TableShape). s.capacity) (same_shape c))))

-- what is copied is the snapshot of the shard
copied : (c : goal.After-deref) → copied_from c.args.into.now.shape c.self.inside.position c.deref.result.now
    ≡ snapshot_of (record { list = c.self.inside.list; base = c.self.inside.base; position = c.self.inside.position })
copied c =
    let shard : ShardValue = record { list = c.self.inside.list; base = c.self.inside.base; position = c.self.inside.position } in
    let positions : c.self.inside.position ≡ shard.position = refl in
    shard_state_copy_is_same (snapshot_of shard) c.args.into.now.shape c.self.inside.position c.deref.result.now
    (c.deref.ensures.value ∙ c.self.invariant.1) (same_shape c) positions

pub copy_from-requires-clause-snapshot : goal.copy_from-requires-clause-snapshot
copy_from-requires-clause-snapshot c = subst IsSnapshot (sym (copied c)) c.self.invariant.0.tables

pub returns : goal.returns
returns c =
    let shard : ShardValue = record { list = c.self.inside.list; base = c.self.inside.base; position = c.self.inside.position } in
    let positions : c.self.inside.position ≡ shard.position = refl in
    let shapes : c.args.into.now.shape ≡ shard.base.shape = c.requires ∙ ap (λ (s : ShardValue). s.base.shape) (sym c.self.view_is) in
    c.copy_from.ensures
    ∙ shard_state_copy_is_same (snapshot_of shard) c.args.into.now.shape c.self.inside.position c.deref.result.now
    (c.deref.ensures.value ∙ c.self.invariant.1) shapes positions
    ∙ ap snapshot_of c.self.view_is
