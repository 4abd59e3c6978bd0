use Rattle.std.proofs.Common.{◌≡◌, ◌+◌, ◌-◌, ◌^◌, ◌<◌, ◌≤◌, List, take, drop, length, All, ap, sym, ◌∙◌, subst, arith}
use Rattle.std.specs.List.{slice_range}
use Rattle.std.proofs.lemmas.List.{take_at}
use Rattle.std.proofs.lemmas.List.Elements.{All-same}
use Rattle.prefix_lattice.specs.{RecordValue, total_weight}
use Rattle.space_saving.specs.{TableValue, table_total}
use Rattle.shard_state.specs.Snapshot.{fold_from, tables_after, tables_of}
use Rattle.shard_state.specs.ShardState.{ShardValue, snapshot_of}
use Rattle.shard_state.proofs.TableFoldLemmas.{TableFoldKeeps}
use Rattle.shard_state.proofs.ShardStateLemmas.{ShardStateFoldedOn, shard_state_folds_on, shard_state_has_room}
use Rattle.shard_state.proofs.ShardStateLemmas.{shard_state_folded_tables}
use Rattle.shard_state.proofs.shard_state.ShardState.fold_block.Goals as goal

pub count_in_tables-requires-clause-room : goal.count_in_tables-requires-clause-room
count_in_tables-requires-clause-room c =
    let inside = c.self.inside in
    let to = c.min-to.result in
    let shard : ShardValue = record { list = inside.list; base = inside.base; position = inside.position } in
    let later : shard.position ≤ to = omega (arith, c.self.invariant.0.within) in
    let within : to ≤ length shard.list = omega arith in
    let HasRoom : List RecordValue → TableValue → Type 0 =
    λ list t.
    table_total t.entries + total_weight (take (to - inside.position) (drop inside.position list)) < 2 ^ 56 in
    subst (λ list. All (HasRoom list) c.deref_mut.result.now) (sym c.as_slice.ensures.value)
    (All-same (HasRoom inside.list) c.deref_mut.result.now (tables_of (snapshot_of shard)) (c.deref_mut.ensures.value ∙ c.self.invariant.1)
    (shard_state_has_room shard to c.self.invariant.0 later within))

pub invariant_of-self : goal.invariant_of-self
invariant_of-self c =
    let inside = c.self.inside in
    let to = c.min-to.result in
    let shard : ShardValue = record { list = inside.list; base = inside.base; position = inside.position } in
    let later : shard.position ≤ to = omega (arith, c.self.invariant.0.within) in
    let within : to ≤ length shard.list = omega arith in
    let keep : TableFoldKeeps = record {
      table = c.steps_leave_a_table.ensures.table;
      total = c.steps_leave_a_table.ensures.total;
      key = c.keys_are_of_their_node.ensures.of_record_key;
    } in
    let on : ShardStateFoldedOn shard to = shard_state_folds_on shard to keep c.self.invariant.0 later within in
    let counted : c.count_in_tables.new.tables ≡ tables_after inside.base.shape.grain 0 inside.tables.items (slice_range inside.list inside.position to) =
    c.count_in_tables.ensures
    ∙ ap (λ grain. tables_after grain 0 c.deref_mut.result.now (take (to - inside.position) (drop inside.position c.as_slice.result.now)))
    c.grain.ensures.grain
    ∙ ap (λ ts. tables_after inside.base.shape.grain 0 ts (take (to - inside.position) (drop inside.position c.as_slice.result.now))) c.deref_mut.ensures.value
    ∙ ap (λ list. tables_after inside.base.shape.grain 0 inside.tables.items (take (to - inside.position)
    (drop inside.position list))) c.as_slice.ensures.value in
    let many : length c.count_in_tables.new.tables ≡ inside.tables.len = cc in (
      on.is_shard,
      take_at c.count_in_tables.new.tables (drop (length c.count_in_tables.new.tables) inside.tables.items) inside.tables.len many
          ∙ counted ∙ shard_state_folded_tables shard to inside.tables.items on c.self.invariant.1,
    )

pub returns-clause-tables : goal.returns-clause-tables
returns-clause-tables c =
    let inside = c.self.inside in
    let to = c.min-to.result in
    let shard : ShardValue = record { list = inside.list; base = inside.base; position = inside.position } in
    let later : shard.position ≤ to = omega (arith, c.self.invariant.0.within) in
    let within : to ≤ length shard.list = omega arith in
    let keep : TableFoldKeeps = record {
      table = c.steps_leave_a_table.ensures.table;
      total = c.steps_leave_a_table.ensures.total;
      key = c.keys_are_of_their_node.ensures.of_record_key;
    } in
    let on : ShardStateFoldedOn shard to = shard_state_folds_on shard to keep c.self.invariant.0 later within in
    subst (λ (v : ShardValue). fold_from 0 inside.base.shape inside.base.tables (slice_range inside.list inside.base.position to)
    ≡ fold_from 0 v.base.shape (snapshot_of v).tables (slice_range v.list inside.position to)) c.self.view_is on.tables

pub returns-clause-kept : goal.returns-clause-kept
returns-clause-kept c =
    let inside = c.self.inside in
    let to = c.min-to.result in
    let shard : ShardValue = record { list = inside.list; base = inside.base; position = inside.position } in
    let later : shard.position ≤ to = omega (arith, c.self.invariant.0.within) in
    let within : to ≤ length shard.list = omega arith in
    let keep : TableFoldKeeps = record {
      table = c.steps_leave_a_table.ensures.table;
      total = c.steps_leave_a_table.ensures.total;
      key = c.keys_are_of_their_node.ensures.of_record_key;
    } in
    let on : ShardStateFoldedOn shard to = shard_state_folds_on shard to keep c.self.invariant.0 later within in
    on.is_shard
