use Rattle.std.proofs.Common.{◌≡◌, length, get_or, refl, sym, subst, arith}
use Rattle.std.proofs.lemmas.Option.{slice_get-get_or, slice_get_read}
use Rattle.space_saving.specs.{TableValue}
use Rattle.shard_state.proofs.ShardStateLemmas.{shard_state_place_in_rest}
use Rattle.shard_state.proofs.folding.copy_tables.Goals as goal

pub copy_into-requires : goal.copy_into-requires
copy_into-requires c =
    let place = c.loop-place.place in
    let tables = c.args.tables.now in
    let table = c.index-tables-place.result in
    let flat = c.index-into-place.result in
    subst (λ (t : TableValue). t.capacity ≡ table.capacity)
    (sym (shard_state_place_in_rest c.loop-place.into c.args.into.now place flat c.loop-place.invariant.rest))
    (c.requires.capacities place table (get_or c.args.into.now place flat)
    (slice_get_read tables (length tables) place table refl (omega arith) c.index-tables-place.is)
    (slice_get-get_or c.args.into.now place flat (omega arith)))
