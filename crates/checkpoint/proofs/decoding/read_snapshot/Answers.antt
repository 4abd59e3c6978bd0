use Rattle.std.proofs.Common.{ℕ, ◌≤◌, map, arith}
use Rattle.std.proofs.lemmas.Result.{err_from_is_err_and}
use Rattle.prefix_lattice.specs.{record_limit}
use Rattle.prefix_lattice.specs.{node_count}
use Rattle.prefix_lattice.specs.declared.grain.Grain.{Grain}
use Rattle.shard_state.specs.{TableShape}
use Rattle.checkpoint.specs.Body.{table_bytes}
use Rattle.checkpoint.specs.Decoding.{TableFits}
use Rattle.checkpoint.proofs.DecodeFaultLemmas.{decode_fault_is_same}
use Rattle.checkpoint.proofs.PrefixFreeLemmas.{tables_are_prefix_free}
use Rattle.checkpoint.proofs.ReadListLemmas.{read_list_is_same}
use Rattle.checkpoint.proofs.SnapshotLemmas.{entries_in_snapshot, snapshot_tables_are_alike, snapshot_is_long}
use Rattle.checkpoint.proofs.SnapshotLemmas.{snapshot_has_front, snapshot_was_decoded}
use Rattle.checkpoint.proofs.decoding.read_snapshot.Goals as goal

abbrev shape_of : Grain → ℕ → TableShape
shape_of grain capacity = record { grain = grain; capacity = capacity }

pub returns-then-bytes-lt8-clause-damaged : goal.returns-then-bytes-lt8-clause-damaged
returns-then-bytes-lt8-clause-damaged c = λ is snapshot rest begins.
    absurd (omega (arith, snapshot_is_long (shape_of c.args.grain c.args.capacity) c.args.bytes.now snapshot rest begins))

pub returns-in_err-tables-clause-damaged : goal.returns-in_err-tables-clause-damaged
returns-in_err-tables-clause-damaged c =
    let p = err_from_is_err_and c.from_residual.result c.from_residual.ensures.1 in
    rw (p.1, p.2) (λ is snapshot rest begins.
    let parts = snapshot_has_front (shape_of c.args.grain c.args.capacity) c.args.bytes.now c.first_number-position.result.1.now rest
    c.first_number-position.result.0 snapshot (omega arith) c.first_number-position.ensures.spelled begins in
    c.in_err-tables.ensures.damaged (decode_fault_is_same _ _ is) snapshot.tables rest parts.tables_begin)

pub returns-in_default-clause-damaged : goal.returns-in_default-clause-damaged
returns-in_default-clause-damaged c = λ is snapshot rest begins.
    let parts = snapshot_has_front (shape_of c.args.grain c.args.capacity) c.args.bytes.now c.first_number-position.result.1.now rest
    c.first_number-position.result.0 snapshot (omega arith) c.first_number-position.ensures.spelled begins in
    let same = read_list_is_same table_bytes (TableFits c.args.capacity) (tables_are_prefix_free c.args.capacity c.requires.most)
    c.first_number-position.result.1.now c.in_ok-tables.rest.now rest (node_count c.args.grain)
    (map entries_in_snapshot c.in_ok-tables.tables.items) snapshot.tables
    c.in_ok-tables.ensures.read parts.tables_begin in
    let are = snapshot_tables_are_alike (shape_of c.args.grain c.args.capacity) snapshot c.in_ok-tables.tables.items
    begins.fits c.requires.of_grain c.in_ok-tables.ensures.capacity same.0 in
    let placed : c.first_number-position.result.0 ≤ record_limit = omega (arith, parts.position_is, begins.fits.is_snapshot.placed) in
    cc (c.in_default.ensures.accepted.1 (record { placed = placed; are_tables = are }))

pub returns-clause-read : goal.returns-clause-read
returns-clause-read c =
    snapshot_was_decoded (shape_of c.args.grain c.args.capacity) c.args.bytes.now c.first_number-position.result.1.now c.in_ok-tables.rest.now
    c.first_number-position.result.0 c.in_ok-tables.tables.items c.in-Some.snapshot c.position-kept.ensures.kept
    c.in-Some.ensures.grain c.in-Some.ensures.position c.in-Some.ensures.tables c.in_ok-tables.ensures.capacity
    c.first_number-position.ensures.spelled c.in_ok-tables.ensures.read
