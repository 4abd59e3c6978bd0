use Rattle.std.proofs.Common.{◌≡◌, ◌<◌, get_or, subst, length, refl, arith}
use Rattle.std.proofs.lemmas.Option.{slice_get_within}
use Rattle.prefix_lattice.specs.{node_at}
use Rattle.space_saving.specs.{AreTableEntries}
use Rattle.shard_state.specs.Snapshot.{IsLikeTable}
use Rattle.shard_state.proofs.SnapshotPartLemmas.{more_snapshot_parts}
use Rattle.shard_state.proofs.snapshot_parts.are_tables.Goals as goal

pub loop-place-preserved : goal.loop-place-preserved
loop-place-preserved c =
    let tables = c.args.tables.now in
    let here = c.index-tables-from.result in
    let read : here ≡ get_or tables c.loop-place.place here = subst (λ n. here ≡ get_or tables n here) c.from-in-loop-place.ensures c.index-tables-from.is in
    record {
      alike = more_snapshot_parts (λ k t. IsLikeTable c.capacity-capacity.result c.total-total.result (node_at c.args.grain k) t) tables c.loop-place.place here
          (omega arith) read
          (c.is_like.ensures.like.0 c.if-not-is_like.false) c.loop-place.invariant.alike;
      kept =
          more_snapshot_parts (λ _ t. AreTableEntries t.capacity t.entries) tables c.loop-place.place here (omega arith) read
          c.is_like.ensures.kept c.loop-place.invariant.kept;
    }

pub returns-clause-tables : goal.returns-clause-tables
returns-clause-tables c = (
  λ _. record {
    capacity = c.capacity-capacity.result;
    total = c.total-total.result;
    of_grain = omega arith;
    as_many = omega arith;
    alike = λ place table is_table.
        let within : place < length c.args.tables.now = slice_get_within c.args.tables.now place table is_table in
        c.loop-place.invariant.alike place table (omega arith) is_table;
  },
  λ _. refl,
)

pub returns-clause-kept : goal.returns-clause-kept
returns-clause-kept c = λ _ place table is_table.
    let within : place < length c.args.tables.now = slice_get_within c.args.tables.now place table is_table in
    c.loop-place.invariant.kept place table (omega arith) is_table
