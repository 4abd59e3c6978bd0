use Rattle.std.proofs.Common.{◌≡◌, ◌+◌, ◌^◌, ◌<◌, get_or, ap, sym, ◌∙◌, subst, arith}
use Rattle.prefix_lattice.specs.{total_weight}
use Rattle.space_saving.specs.{TableValue, table_total}
use Rattle.shard_state.proofs.ShardStateLemmas.{shard_state_place_in_rest}
use Rattle.shard_state.proofs.folding.count_in_tables.Goals as goal

pub count_in_table-requires : goal.count_in_table-requires
count_in_table-requires c =
    let place = c.loop-place.place in
    let here = c.index-tables-from.result in
    let same : get_or c.loop-place.tables c.from.result here ≡ get_or c.args.tables.now place here =
    ap (λ n. get_or c.loop-place.tables n here) c.from.ensures ∙ shard_state_place_in_rest c.loop-place.tables c.args.tables.now place here
    c.loop-place.invariant.rest in
    subst (λ (t : TableValue). table_total t.entries + total_weight c.args.records.now < 2 ^ 56) (sym same) (c.requires.room place here (omega arith))
