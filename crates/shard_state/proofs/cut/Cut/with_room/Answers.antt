use Rattle.std.proofs.Common.{◌≡◌, List, replicate, ap, sym, subst, ◌∙◌, arith}
use Rattle.shard_state.specs.Snapshot.{SnapshotValue, empty_snapshot}
use Rattle.shard_state.specs.Cut.{CutValue, IsCut}
use Rattle.shard_state.proofs.EmptyTableLemmas.{empty_tables_make_shard_cut}
use Rattle.shard_state.specs.Snapshot.{TableShape}
use Rattle.shard_state.proofs.cut.Cut.with_room.Goals as goal

-- the snapshots are those of the cut of no record
all_empty : (c : goal.After-loop-shard) → c.loop-shard.snapshots.items
    ≡ replicate c.args.shards (empty_snapshot (record { grain = c.args.grain; capacity = c.args.capacity }))
all_empty c =
    let all : c.loop-shard._shard ≡ c.args.shards = omega arith in
    c.loop-shard.invariant ∙ ap (λ n. replicate n (empty_snapshot (record { grain = c.args.grain; capacity = c.args.capacity }))) all

pub invariant_of-result : goal.invariant_of-result
invariant_of-result c =
    let shape : TableShape = record { grain = c.args.grain; capacity = c.args.capacity } in
    subst (λ (shards : List SnapshotValue). IsCut (record { shape = shape; shards = shards })) (sym (all_empty c))
    (empty_tables_make_shard_cut c.args.shards shape c.requires.some c.requires.few c.requires.least c.requires.most
    c.requires.of_grain)

pub returns : goal.returns
returns c =
    let shape : TableShape = record { grain = c.args.grain; capacity = c.args.capacity } in
    let with_shards : List SnapshotValue → CutValue = λ shards. record { shape = shape; shards = shards } in
    ap with_shards (all_empty c)
