use Rattle.std.proofs.Common.{Some, ◌≡◌, slice_get, ap, subst, arith}
use Rattle.std.specs.Prelude.{IfSome}
use Rattle.prefix_lattice.specs.{node_count, node_index}
use Rattle.checkpoint.specs.Body.{table_bytes, HasShortKeys}
use Rattle.checkpoint.proofs.NextValueLemmas.{spelling_of_next_value, all_with_next_value}
use Rattle.checkpoint.proofs.SnapshotLemmas.{snapshot_gets_table}
use Rattle.checkpoint.proofs.encoding.push_tables.Goals as goal

pub loop-index-preserved : goal.loop-index-preserved
loop-index-preserved c =
    let tables = c.args.snapshot.now.tables in
    let index = c.loop-index.index in
    let entries = c.table.result.now.entries in
    let placed = subst (λ (node : _). IfSome node (λ n. node_index n ≡ index)) c.unwrap-node.ensures c.from_index.ensures.back in
    let got : slice_get tables index ≡ Some entries =
    snapshot_gets_table c.args.snapshot.now _ index c.table.result.now c.table.ensures.table placed
    (omega (arith, c.requires.as_many, c.nodes-index-end.ensures.value, ap node_count c.grain-grain.ensures.grain)) in (
      spelling_of_next_value table_bytes c.args.out.now.items c.loop-index.out.items c.push_table.new.out.items tables index entries
          got c.loop-index.invariant.0 c.in_ok-push_table.ensures.spelled,
      all_with_next_value HasShortKeys tables index entries got c.loop-index.invariant.1 c.in_ok-push_table.ensures.keys,
    )
