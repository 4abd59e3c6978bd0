-- The parts of a body: what fits, and that no spelling of one begins another.
use Rattle.std.proofs.Common.{◌≡◌, ℕ, ◌<◌, ◌≤◌, List, [], ◌++◌, length, get_or, All, sym}
use Rattle.std.proofs.Common.{ap, subst, ◌∙◌, append_assoc, arith}
use Rattle.std.specs.List.{flat_map}
use Rattle.std.proofs.lemmas.List.{get_or_default}
use Rattle.std.proofs.lemmas.List.Sums.{get_or-le-sum_by}
use Rattle.prefix_lattice.specs.{node_count, node_index, node_at}
use Rattle.prefix_lattice.proofs.NodePlaceLemmas.{node_index-node_at_place, IsNode-node_at_place}
use Rattle.space_saving.specs.declared.entry.Entry.{Entry}
use Rattle.space_saving.specs.{table_total, AreTableEntries}
use Rattle.shard_state.specs.{SnapshotValue, TableShape}
use Rattle.checkpoint.specs.Numbers.{number_bytes}
use Rattle.checkpoint.specs.Body.{entry_bytes, table_bytes, snapshot_bytes}
use Rattle.checkpoint.specs.Decoding.{EntryFits, TableFits, SnapshotFits}
use Rattle.checkpoint.proofs.SpellingLemmas.{SpellingsAreApart, spellings_in_bytes_are_apart}
use Rattle.checkpoint.proofs.SpellingLemmas.{joined_spellings_are_apart}

-- three parts, one after the other
pub prefix_free_parts_regroup : (a b c r : List ℕ) → (a ++ (b ++ c)) ++ r ≡ a ++ (b ++ (c ++ r))
prefix_free_parts_regroup a b c r = append_assoc a (b ++ c) r ∙ ap (λ (l : List ℕ). a ++ l) (append_assoc b c r)

pub entries_are_prefix_free : SpellingsAreApart entry_bytes EntryFits
entries_are_prefix_free x y r s fits_x fits_y same =
    let grouped = sym (prefix_free_parts_regroup (number_bytes 8 x.key) (number_bytes 8 x.count) (number_bytes 8 x.error) r) ∙ same
    ∙ prefix_free_parts_regroup (number_bytes 8 y.key) (number_bytes 8 y.count) (number_bytes 8 y.error) s in
    let key = spellings_in_bytes_are_apart 8 x.key y.key _ _ fits_x.key fits_y.key grouped in
    let count = spellings_in_bytes_are_apart 8 x.count y.count _ _ fits_x.count fits_y.count key.1 in
    let error = spellings_in_bytes_are_apart 8 x.error y.error r s fits_x.error fits_y.error count.1 in
    (same_entry x y key.0 count.0 error.0, error.1)
  where
    same_entry : (x y : Entry) → x.key ≡ y.key → x.count ≡ y.count → x.error ≡ y.error → x ≡ y
    same_entry x y key count error =
        ap (λ (k : ℕ). record { key = k; count = x.count; error = x.error }) key
        ∙ ap (λ (n : ℕ). record { key = y.key; count = n; error = x.error }) count
        ∙ ap (λ (n : ℕ). record { key = y.key; count = y.count; error = n }) error

-- the numbers of each entry of a table fit
pub prefix_free_entries_fit : (capacity : ℕ) (entries : List Entry) → TableFits capacity entries → All EntryFits entries
prefix_free_entries_fit capacity entries fits k d within =
    let least = get_or-le-sum_by (λ (e : Entry). e.count) entries k d within in
    let small = fits.are_entries.is_table.small_errors k d within in
    let bounded = fits.are_entries.bounded in
    record { key = fits.keys k d within; count = omega (arith, least, bounded); error = omega (arith, least, bounded, small.0) }

pub tables_are_prefix_free : (capacity : ℕ) → capacity ≤ 4096 → SpellingsAreApart table_bytes (TableFits capacity)
tables_are_prefix_free capacity most x y r s fits_x fits_y same =
    let grouped = sym (prefix_free_parts_regroup (number_bytes 8 (table_total x)) (number_bytes 4 (length x)) (flat_map entry_bytes x) r) ∙ same
    ∙ prefix_free_parts_regroup (number_bytes 8 (table_total y)) (number_bytes 4 (length y)) (flat_map entry_bytes y) s in
    let total = spellings_in_bytes_are_apart 8 (table_total x) (table_total y) _ _
    (omega (arith, fits_x.are_entries.bounded)) (omega (arith, fits_y.are_entries.bounded)) grouped in
    let count = spellings_in_bytes_are_apart 4 (length x) (length y) _ _
    (omega (arith, fits_x.are_entries.is_table.fits)) (omega (arith, fits_y.are_entries.is_table.fits)) total.1 in
    joined_spellings_are_apart entry_bytes EntryFits entries_are_prefix_free x y r s count.0
    (prefix_free_entries_fit capacity x fits_x) (prefix_free_entries_fit capacity y fits_y) count.1

-- each table of a snapshot fits
pub prefix_free_tables_fit : (shape : TableShape) (snapshot : SnapshotValue) → SnapshotFits shape snapshot
    → All (TableFits shape.capacity) snapshot.tables
prefix_free_tables_fit shape snapshot fits k d within =
    let grain = snapshot.shape.grain in
    let few : k < node_count grain = omega (arith, within, fits.is_snapshot.as_many) in
    let at_node = fits.is_snapshot.tables (node_at grain k) (IsNode-node_at_place grain k few) in
    let here : get_or snapshot.tables (node_index (node_at grain k)) [] ≡ get_or snapshot.tables k d =
    ap (λ (i : ℕ). get_or snapshot.tables i []) (node_index-node_at_place grain k)
    ∙ get_or_default snapshot.tables k [] d within in
    record {
      are_entries = subst (λ (s : TableShape). AreTableEntries s.capacity (get_or snapshot.tables k d)) fits.shape_is
          (subst (AreTableEntries snapshot.shape.capacity) here at_node.are_entries);
      keys = fits.keys k d within;
    }

pub snapshots_are_prefix_free : (shape : TableShape) → shape.capacity ≤ 4096
    → SpellingsAreApart snapshot_bytes (SnapshotFits shape)
snapshots_are_prefix_free shape most x y r s fits_x fits_y same =
    let grouped = sym (append_assoc (number_bytes 8 x.position) (flat_map table_bytes x.tables) r) ∙ same
    ∙ append_assoc (number_bytes 8 y.position) (flat_map table_bytes y.tables) s in
    let position = spellings_in_bytes_are_apart 8 x.position y.position _ _
    (omega (arith, fits_x.is_snapshot.placed)) (omega (arith, fits_y.is_snapshot.placed)) grouped in
    let shapes = fits_x.shape_is ∙ sym fits_y.shape_is in
    let as_many = fits_x.is_snapshot.as_many ∙ ap (λ (s : TableShape). node_count s.grain) shapes ∙ sym fits_y.is_snapshot.as_many in
    let tables = joined_spellings_are_apart table_bytes (TableFits shape.capacity) (tables_are_prefix_free shape.capacity most)
    x.tables y.tables r s as_many (prefix_free_tables_fit shape x fits_x) (prefix_free_tables_fit shape y fits_y)
    position.1 in
    (same_snapshot x y shapes position.0 tables.0, tables.1)
  where
    same_snapshot : (x y : SnapshotValue) → x.shape ≡ y.shape → x.position ≡ y.position → x.tables ≡ y.tables → x ≡ y
    same_snapshot x y shape position tables =
        ap (λ (s : TableShape). record { shape = s; position = x.position; tables = x.tables }) shape
        ∙ ap (λ (p : ℕ). record { shape = y.shape; position = p; tables = x.tables }) position
        ∙ ap (λ (t : List (List Entry)). record { shape = y.shape; position = y.position; tables = t }) tables
