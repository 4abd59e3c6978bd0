-- What bytes begin with, which no public contract cites.
use Rattle.std.specs.Prelude.{ℕ, ◌≡◌, ◌^◌, ◌<◌, List, ◌++◌, length, All}
use Rattle.space_saving.specs.declared.entry.Entry.{Entry}
use Rattle.space_saving.specs.{AreTableEntries}
use Rattle.shard_state.specs.{SnapshotValue, IsSnapshot, TableShape}
use Rattle.checkpoint.specs.Body.{HasShortKeys, KeysFit}

-- bytes begin with the spelling of a value that fits, and go on with the rest
pub record BeginsWith {A : Type 0} (spell : A → List ℕ) (Fits : A → Type 0) (bytes : List ℕ) (value : A) (rest : List ℕ) : Type 0 where
  pub fits : Fits value
  pub spelled : bytes ≡ spell value ++ rest

-- bytes begin with the spelling of no value that fits
abbrev pub BeginsWithNone : {A : Type 0} → (A → List ℕ) → (A → Type 0) → List ℕ → Type 0
BeginsWithNone {A = A} spell Fits bytes = (value : A) (rest : List ℕ) → BeginsWith spell Fits bytes value rest → ⊥

-- this many values, each of which fits
pub record ListFits {A : Type 0} (Fits : A → Type 0) (count : ℕ) (values : List A) : Type 0 where
  pub as_many : length values ≡ count
  pub each : All Fits values

-- an entry whose numbers fit 8 bytes
pub record EntryFits (entry : Entry) : Type 0 where
  pub key : entry.key < 2 ^ 64
  pub count : entry.count < 2 ^ 64
  pub error : entry.error < 2 ^ 64

-- a table of this capacity, whose keys fit 8 bytes
pub record TableFits (capacity : ℕ) (entries : List Entry) : Type 0 where
  pub are_entries : AreTableEntries capacity entries
  pub keys : HasShortKeys entries

-- a snapshot of this shape, whose keys fit 8 bytes
pub record SnapshotFits (shape : TableShape) (snapshot : SnapshotValue) : Type 0 where
  pub is_snapshot : IsSnapshot snapshot
  pub shape_is : snapshot.shape ≡ shape
  pub keys : KeysFit snapshot
