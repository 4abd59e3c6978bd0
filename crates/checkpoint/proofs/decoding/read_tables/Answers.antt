use Rattle.std.proofs.Common.{◌≡◌, ◌+◌, ℕ, List, [], ◌∷◌, All, map, subst, sym, arith}
use Rattle.std.proofs.lemmas.Result.{err_from_is_err_and}
use Rattle.std.specs.List.{flat_map}
use Rattle.space_saving.specs.declared.entry.Entry.{Entry}
use Rattle.space_saving.specs.declared.flat.Flat.{Flat}
use Rattle.prefix_lattice.specs.{node_count}
use Rattle.checkpoint.specs.Body.{table_bytes}
use Rattle.checkpoint.specs.Decoding.{BeginsWith, ListFits, TableFits}
use Rattle.checkpoint.proofs.DecodeFaultLemmas.{decode_fault_is_same}
use Rattle.checkpoint.proofs.PrefixFreeLemmas.{tables_are_prefix_free}
use Rattle.checkpoint.proofs.ReadListLemmas.{read_list_grows, read_list_has_too_few}
use Rattle.checkpoint.proofs.SnapshotLemmas.{entries_in_snapshot}
use Rattle.std.proofs.lemmas.List.Elements.{All-push}
use Rattle.std.proofs.lemmas.List.{map-append}
use Rattle.checkpoint.proofs.decoding.read_tables.Goals as goal

pub returns-in_err-table-clause-damaged : goal.returns-in_err-table-clause-damaged
returns-in_err-table-clause-damaged c =
    let p = err_from_is_err_and c.from_residual-in_err-table.result c.from_residual-in_err-table.ensures.1 in
    rw (p.1, p.2) (λ is.
    read_list_has_too_few table_bytes (TableFits c.args.capacity) (tables_are_prefix_free c.args.capacity c.requires.most) c.args.bytes.now
    c.loop-index.rest.now c.loop-index._index (node_count c.args.grain)
    (map entries_in_snapshot c.loop-index.tables.items) c.loop-index.invariant.1 (omega arith)
    (c.in_err-table.ensures.damaged (decode_fault_is_same _ _ is)))

pub loop-index-preserved : goal.loop-index-preserved
loop-index-preserved c =
    let table = c.in_ok-table.table in
    let tables = c.loop-index.tables.items in
    let HasCapacity : Flat → Type 0 = λ t. t.capacity ≡ c.args.capacity in
    let Begin : ℕ → List (List Entry) → List ℕ → Type 0 =
    λ count lists rest. BeginsWith (flat_map table_bytes) (ListFits (TableFits c.args.capacity) count) c.args.bytes.now lists rest in
    subst (λ (items : List Flat). All HasCapacity items
    × Begin (c.loop-index._index + 1) (map (λ t. t.entries) items) c.in_ok-table.after.now)
    (sym c.in_ok-push.ensures.items) (
      All-push HasCapacity tables table c.loop-index.invariant.0 c.in_ok-table.ensures.capacity,
      subst (λ lists. Begin (c.loop-index._index + 1) lists c.in_ok-table.after.now)
          (sym (map-append (λ t. t.entries) tables (table ∷ [])))
          (read_list_grows table_bytes (TableFits c.args.capacity) c.args.bytes.now c.loop-index.rest.now c.in_ok-table.after.now
          c.loop-index._index (map (λ t. t.entries) tables) table.entries c.loop-index.invariant.1 c.in_ok-table.ensures.read),
    )
