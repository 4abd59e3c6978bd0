-- A snapshot that bytes begin with, and the tables that it is made of.
use Rattle.std.proofs.Common.{◌≡◌, ℕ, ◌^◌, ◌<◌, ◌≤◌, List, [], ◌∷◌, ◌++◌, length, get_or, map, slice_get}
use Rattle.std.proofs.Common.{Some, All, refl, sym, ap, subst, ◌∙◌, append_assoc, arith}
use Rattle.std.specs.List.{flat_map}
use Rattle.std.proofs.lemmas.List.{length-append, length-map, get_or-map}
use Rattle.std.proofs.lemmas.List.Elements.{All-head}
use Rattle.std.proofs.lemmas.Option.{get_or_from_slice_get, slice_get_within, slice_get-get_or}
use Rattle.prefix_lattice.specs.{NodeValue, IsNode, IsPrefixKey, node_count, node_index, node_at}
use Rattle.prefix_lattice.proofs.NodePlaceLemmas.{node_count-some, node_index-node_at_place, IsNode-node_at_place}
use Rattle.space_saving.specs.declared.entry.Entry.{Entry}
use Rattle.space_saving.specs.{TableValue, table_total}
use Rattle.shard_state.specs.{AreTablesOf, SnapshotValue, IsSnapshot, TableShape, most_grain_capacity, table_at, snapshot_total}
use Rattle.checkpoint.specs.Numbers.{number_bytes}
use Rattle.checkpoint.specs.Body.{table_bytes, snapshot_bytes}
use Rattle.checkpoint.specs.Decoding.{BeginsWith, ListFits, TableFits, SnapshotFits}
use Rattle.checkpoint.proofs.NumberBytesLemmas.{length-number_bytes}
use Rattle.checkpoint.proofs.SpellingLemmas.{spellings_in_bytes_are_apart}
use Rattle.checkpoint.proofs.PrefixFreeLemmas.{prefix_free_tables_fit}

abbrev pub entries_in_snapshot : TableValue → List Entry
entries_in_snapshot table = table.entries

abbrev pub snapshot_with_entries : ℕ → List Entry → TableValue
snapshot_with_entries capacity entries = record { capacity = capacity; entries = entries }

-- the table at a node is the one at the node's index
pub snapshot_gets_table : (snapshot : SnapshotValue) (node : NodeValue) (index : ℕ) (table : TableValue)
    → table ≡ table_at node snapshot → node_index node ≡ index → index < length snapshot.tables
    → slice_get snapshot.tables index ≡ Some table.entries
snapshot_gets_table snapshot node index table is placed within =
    slice_get-get_or snapshot.tables index [] within
    ∙ ap (λ (i : ℕ). Some (get_or snapshot.tables i [])) (sym placed)
    ∙ ap (λ (t : TableValue). Some t.entries) (sym is)

-- a snapshot's bytes are at least 8
pub snapshot_is_long : (shape : TableShape) (bytes : List ℕ) (snapshot : SnapshotValue) (rest : List ℕ)
    → BeginsWith snapshot_bytes (SnapshotFits shape) bytes snapshot rest → 8 ≤ length bytes
snapshot_is_long shape bytes snapshot rest begins =
    let position = number_bytes 8 snapshot.position in
    let tables = flat_map table_bytes snapshot.tables in
    omega (
      arith,
      ap length begins.spelled,
      length-append (position ++ tables) rest,
      length-append position tables,
      length-number_bytes 8 snapshot.position,
    )

-- a snapshot has as many tables as the grain of its shape has nodes
snapshot_has_tables : (shape : TableShape) (snapshot : SnapshotValue) → SnapshotFits shape snapshot
    → length snapshot.tables ≡ node_count shape.grain
snapshot_has_tables shape snapshot fits = fits.is_snapshot.as_many ∙ ap (λ (s : TableShape). node_count s.grain) fits.shape_is

-- what was read in front of a snapshot's tables
pub record SnapshotFront (shape : TableShape) (position : ℕ) (snapshot : SnapshotValue) (middle rest : List ℕ) : Type 0 where
  pub position_is : position ≡ snapshot.position
  pub tables_begin : BeginsWith (flat_map table_bytes) (ListFits (TableFits shape.capacity) (node_count shape.grain))
      middle snapshot.tables rest

pub snapshot_has_front : (shape : TableShape) (bytes middle rest : List ℕ) (position : ℕ) (snapshot : SnapshotValue)
    → position < 2 ^ 64 → bytes ≡ number_bytes 8 position ++ middle → BeginsWith snapshot_bytes (SnapshotFits shape) bytes snapshot rest
    → SnapshotFront shape position snapshot middle rest
snapshot_has_front shape bytes middle rest position snapshot small is begins =
    let grouped = sym is ∙ begins.spelled ∙ append_assoc (number_bytes 8 snapshot.position) (flat_map table_bytes snapshot.tables) rest in
    let first = spellings_in_bytes_are_apart 8 position snapshot.position _ _ small (omega (arith, begins.fits.is_snapshot.placed)) grouped in
    record {
      position_is = first.0;
      tables_begin = record {
        fits = record { as_many = snapshot_has_tables shape snapshot begins.fits; each = prefix_free_tables_fit shape snapshot begins.fits };
        spelled = first.1;
      };
    }

-- tables with the entries of a snapshot, and of its capacity, are the tables of a snapshot
pub snapshot_tables_are_alike : (shape : TableShape) (snapshot : SnapshotValue) (tables : List TableValue)
    → SnapshotFits shape snapshot → shape.capacity ≤ most_grain_capacity shape.grain
    → All (λ (table : TableValue). table.capacity ≡ shape.capacity) tables → map entries_in_snapshot tables ≡ snapshot.tables
    → AreTablesOf shape.grain tables
snapshot_tables_are_alike shape snapshot tables fits of_grain alike same = record {
  capacity = shape.capacity;
  total = snapshot_total snapshot;
  of_grain = of_grain;
  as_many = as_many;
  alike = λ place table got.
      let within : place < length tables = slice_get_within tables place table got in
      let few : place < node_count shape.grain = omega (arith, within, as_many) in
      let node = node_at shape.grain place in
      let at_place : get_or tables place table ≡ table = get_or_from_slice_get tables place table table got in
      let here : get_or snapshot.tables (node_index node) [] ≡ table.entries =
      ap (λ (i : ℕ). get_or snapshot.tables i []) (node_index-node_at_place shape.grain place)
      ∙ ap (λ (l : List (List Entry)). get_or l place []) (sym same)
      ∙ get_or-map entries_in_snapshot tables place table [] within ∙ ap entries_in_snapshot at_place in
      let is_node = subst (λ (s : TableShape). IsNode s.grain node) (sym fits.shape_is)
      (IsNode-node_at_place shape.grain place few) in
      let at_node = fits.is_snapshot.tables node is_node in
      record {
        same_capacity = subst (λ (t : TableValue). t.capacity ≡ shape.capacity) at_place (alike place table within);
        same_total = ap table_total (sym here) ∙ at_node.counted;
        keyed = subst (λ (l : List Entry). All (λ (entry : Entry). IsPrefixKey node entry.key) l) here at_node.keyed;
      };
}
  where
    as_many : length tables ≡ node_count shape.grain
    as_many = sym (length-map tables entries_in_snapshot) ∙ ap length same ∙ snapshot_has_tables shape snapshot fits

-- the entries of the tables of one capacity
snapshot_entries_come_back : (capacity : ℕ) (lists : List (List Entry)) → map entries_in_snapshot (map (snapshot_with_entries capacity) lists) ≡ lists
snapshot_entries_come_back capacity [] = refl
snapshot_entries_come_back capacity (first ∷ rest) = ap (λ (l : List (List Entry)). first ∷ l) (snapshot_entries_come_back capacity rest)

-- the capacity that tables were given is theirs
snapshot_has_same_capacity : (given capacity : ℕ) (lists : List (List Entry)) → 0 < length lists
    → All (λ (table : TableValue). table.capacity ≡ capacity) (map (snapshot_with_entries given) lists) → given ≡ capacity
snapshot_has_same_capacity given capacity [] some alike = absurd (omega (arith, some))
snapshot_has_same_capacity given capacity (first ∷ rest) some alike =
    All-head (λ (table : TableValue). table.capacity ≡ capacity) (snapshot_with_entries given first) (map (snapshot_with_entries given) rest) alike

-- a snapshot that was read
pub snapshot_was_decoded : (shape : TableShape) (bytes middle rest : List ℕ) (position : ℕ) (tables : List TableValue) (snapshot : SnapshotValue)
    → IsSnapshot snapshot → snapshot.shape.grain ≡ shape.grain → snapshot.position ≡ position
    → map (snapshot_with_entries snapshot.shape.capacity) snapshot.tables ≡ tables
    → All (λ (table : TableValue). table.capacity ≡ shape.capacity) tables → bytes ≡ number_bytes 8 position ++ middle
    → BeginsWith (flat_map table_bytes) (ListFits (TableFits shape.capacity) (node_count shape.grain)) middle
    (map entries_in_snapshot tables) rest
    → BeginsWith snapshot_bytes (SnapshotFits shape) bytes snapshot rest
snapshot_was_decoded shape bytes middle rest position tables snapshot is_snapshot of_grain placed made alike is begins =
    let same : map entries_in_snapshot tables ≡ snapshot.tables = ap (map entries_in_snapshot) (sym made)
    ∙ snapshot_entries_come_back snapshot.shape.capacity snapshot.tables in
    let Whole : List (List Entry) → Type 0 =
    λ l. BeginsWith (flat_map table_bytes) (ListFits (TableFits shape.capacity) (node_count shape.grain)) middle l rest in
    let whole : Whole snapshot.tables = subst Whole same begins in
    let capacity : snapshot.shape.capacity ≡ shape.capacity =
    snapshot_has_same_capacity snapshot.shape.capacity shape.capacity snapshot.tables
    (omega (arith, is_snapshot.as_many, node_count-some snapshot.shape.grain))
    (subst (All (λ (table : TableValue). table.capacity ≡ shape.capacity)) (sym made) alike) in
    record {
      fits = record {
        is_snapshot = is_snapshot;
        shape_is =
            ap (λ grain. record { grain = grain; capacity = snapshot.shape.capacity }) of_grain
            ∙ ap (λ count. record { grain = shape.grain; capacity = count }) capacity;
        keys = λ k d within. (whole.fits.each k d within).keys;
      };
      spelled = is ∙ ap (λ (p : ℕ). number_bytes 8 p ++ middle) (sym placed)
          ∙ ap (λ (l : List ℕ). number_bytes 8 snapshot.position ++ l) whole.spelled
          ∙ sym (append_assoc (number_bytes 8 snapshot.position) (flat_map table_bytes snapshot.tables) rest);
    }
