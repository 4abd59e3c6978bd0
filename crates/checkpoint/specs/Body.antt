-- The body of a store: a cut, its sequence and the digest of the dealt records, as bytes. Numbers have their high byte
-- first.
use Rattle.std.specs.Prelude.{ℕ, ◌≡◌, ◌+◌, ◌^◌, ◌<◌, ◌≤◌, List, ◌++◌, length, All}
use Rattle.std.specs.List.{flat_map}
use Rattle.space_saving.specs.declared.entry.Entry.{Entry}
use Rattle.space_saving.specs.{table_total}
use Rattle.shard_state.specs.{IsCut, SnapshotValue, TableShape}
use Rattle.checkpoint.specs.Numbers.{number_bytes}
use Rattle.checkpoint.specs.Saved.{SavedValue}
use Rattle.checkpoint.specs.declared.settings.StoreSettings.{StoreSettings}
use Rattle.checkpoint.specs.Header.{AreSettings, settings_shape}

-- the greatest sequence number of a body
abbrev pub greatest_sequence : ℕ
greatest_sequence = 2 ^ 62

-- how many bytes a digest has
abbrev pub digest_length : ℕ
digest_length = 32

-- an entry: its key, its count and its error, in 8 bytes each
abbrev pub entry_bytes : Entry → List ℕ
entry_bytes entry = number_bytes 8 entry.key ++ (number_bytes 8 entry.count ++ number_bytes 8 entry.error)

-- a table: its total in 8 bytes, the number of its entries in 4, and the entries in their order
abbrev pub table_bytes : List Entry → List ℕ
table_bytes entries =
    number_bytes 8 (table_total entries) ++ (number_bytes 4 (length entries) ++ flat_map entry_bytes entries)

-- a snapshot: its position in 8 bytes, and the tables in the order of their nodes' indexes
abbrev pub snapshot_bytes : SnapshotValue → List ℕ
snapshot_bytes snapshot = number_bytes 8 snapshot.position ++ flat_map table_bytes snapshot.tables

-- what follows the length of a body: the sequence in 8 bytes, the digest, and the snapshots of the shards in order
abbrev pub content_bytes : SavedValue → List ℕ
content_bytes saved = number_bytes 8 saved.sequence ++ (saved.digest ++ flat_map snapshot_bytes saved.cut.shards)

-- the body: its length in 8 bytes, which counts these too, and what follows
abbrev pub body_bytes : SavedValue → List ℕ
body_bytes saved = number_bytes 8 (8 + length (content_bytes saved)) ++ content_bytes saved

-- each key of a table fits 8 bytes
abbrev pub HasShortKeys : List Entry → Type 0
HasShortKeys entries = All (λ entry. entry.key < 2 ^ 64) entries

-- each key of each table of a snapshot fits 8 bytes
abbrev pub KeysFit : SnapshotValue → Type 0
KeysFit snapshot = All HasShortKeys snapshot.tables

-- what may be saved in a store of this many shards and of tables of this shape
pub record IsSaved (shards : ℕ) (shape : TableShape) (saved : SavedValue) : Type 0 where
  pub sequenced : 1 ≤ saved.sequence
  pub early : saved.sequence ≤ greatest_sequence
  pub digest : length saved.digest ≡ digest_length
  pub as_many : length saved.cut.shards ≡ shards
  pub alike : saved.cut.shape ≡ shape
  pub cut : IsCut saved.cut
  pub keys : All KeysFit saved.cut.shards

-- the bytes are a body that spells this, in a store of this many shards and of tables of this shape
pub record IsBody (shards : ℕ) (shape : TableShape) (saved : SavedValue) (bytes : List ℕ) : Type 0 where
  pub is_saved : IsSaved shards shape saved
  pub spelled : bytes ≡ body_bytes saved

-- no body begins another one: bodies that begin the same bytes are the same
abbrev pub AreApart : Type 0
AreApart = (settings others : StoreSettings) (saved other : SavedValue) (body second rest after : List ℕ)
    → AreSettings settings → AreSettings others → IsBody settings.shards (settings_shape settings) saved body
    → IsBody others.shards (settings_shape others) other second → body ++ rest ≡ second ++ after → body ≡ second

-- under the settings of a store a body spells one sequence, one digest and one cut
abbrev pub SpellOneThing : Type 0
SpellOneThing = (settings : StoreSettings) (saved other : SavedValue) (body : List ℕ) → AreSettings settings
    → IsBody settings.shards (settings_shape settings) saved body → IsBody settings.shards (settings_shape settings) other body → saved ≡ other
