-- A store under its header: what its two slots hold, and what it opens to.
use Rattle.std.specs.Prelude.{ℕ, ◌≡◌, ◌≤◌, ◌⊎◌, ⊤, nat_lt, if◌then◌else◌, List, length, replicate, Option, Some, None}
use Rattle.std.specs.Prelude.{◌<◌}
use Rattle.prefix_lattice.specs.{RecordValue}
use Rattle.shard_state.specs.{CutRepresents, cut_positions}
use Rattle.slot_disk.specs.{Closed, Whole, slot_content, front_bytes, slot_header, other_slot_of}
use Rattle.slot_disk.specs.{FitsSlot, IsPut, IsReadyForPut, PutMayLeave, closed_known_slots, known_slots_of}
use Rattle.checkpoint.specs.declared.header.StoreHeader.{StoreHeader}
use Rattle.checkpoint.specs.declared.settings.StoreSettings.{StoreSettings}
use Rattle.checkpoint.specs.Version.{VersionTakes}
use Rattle.checkpoint.specs.Header.{AreSettings, IsHeader, header_bytes, settings_shape, stored_header, written_header}
use Rattle.checkpoint.specs.Lengths.{span_of}
use Rattle.checkpoint.specs.Saved.{SavedValue}
use Rattle.checkpoint.specs.Body.{IsBody}
use Rattle.checkpoint.specs.Digest.{lists_digest}

-- what a slot holds: nothing where its gate is closed, else what the body under its open gate spells
abbrev pub SlotHolds : StoreSettings → ℕ → List ℕ → Option SavedValue → Type 0
SlotHolds settings slot image None = slot_content (span_of settings) slot image ≡ Closed
SlotHolds settings slot image (Some saved) =
    (body : List ℕ) × (slot_content (span_of settings) slot image ≡ Whole body) × IsBody settings.shards (settings_shape settings) saved body

-- the bytes are a store with this header, which its version can spell, and its slots hold these two
pub record StoreHolds (front : StoreHeader) (image : List ℕ) (first second : Option SavedValue) : Type 0 where
  pub long : front_bytes ≤ length image
  pub header : slot_header image ≡ header_bytes front
  pub taken : VersionTakes front.version front.settings.grain
  pub first_slot : SlotHolds front.settings 0 image first
  pub second_slot : SlotHolds front.settings 1 image second

-- the bytes are a sound store with this header: each open gate has a body under it
abbrev pub IsSoundStore : StoreHeader → List ℕ → Type 0
IsSoundStore header image =
    (first : Option SavedValue) × (second : Option SavedValue) × StoreHolds header image first second

-- the newer of what two slots hold: that with the greater sequence number, the first where these are equal
abbrev pub newest_in : Option SavedValue → Option SavedValue → Option SavedValue
newest_in None second = second
newest_in (Some saved) None = Some saved
newest_in (Some saved) (Some later) = if nat_lt saved.sequence later.sequence then Some later else Some saved

-- the slot that holds it. Where no slot holds anything it is slot 1, as if that had been saved last
abbrev pub newest_slot_in : Option SavedValue → Option SavedValue → ℕ
newest_slot_in None second = 1
newest_slot_in (Some saved) None = 0
newest_slot_in (Some saved) (Some later) = if nat_lt saved.sequence later.sequence then 1 else 0

-- the slot isn't that of the newest: the other one, or any where no slot holds anything
abbrev pub IsNotNewest : ℕ → Option SavedValue → Option SavedValue → Type 0
IsNotNewest slot first second = (slot ≡ other_slot_of (newest_slot_in first second)) ⊎ (newest_in first second ≡ None)

-- a sound store opens to what its newest slot holds, or to nothing where no gate is open
abbrev pub StoreOpensTo : StoreHeader → List ℕ → Option SavedValue → Type 0
StoreOpensTo header image opened =
    (first : Option SavedValue) × (second : Option SavedValue) × StoreHolds header image first second
    × (newest_in first second ≡ opened)

-- this slot of a sound store is the newest, and holds this
pub record HasNewest (header : StoreHeader) (slot : ℕ) (saved : SavedValue) (image : List ℕ) : Type 0 where
  pub first : Option SavedValue
  pub second : Option SavedValue
  pub holds : StoreHolds header image first second
  pub newest_is : newest_in first second ≡ Some saved
  pub slot_is : newest_slot_in first second ≡ slot

-- the positions that a store opens to, each 0 where no gate is open
abbrev pub store_positions : StoreSettings → Option SavedValue → List ℕ
store_positions settings None = replicate settings.shards 0
store_positions settings (Some saved) = cut_positions saved.cut

-- the newest sequence number of a store, 0 where no gate is open
abbrev pub store_sequence : Option SavedValue → ℕ
store_sequence None = 0
store_sequence (Some saved) = saved.sequence

-- what a store opens to is of these dealt lists: it has their digest, and its cut represents them
abbrev pub IsStoreOf : StoreHeader → List (List RecordValue) → Option SavedValue → Type 0
IsStoreOf header lists None = ⊤
IsStoreOf header lists (Some saved) =
    (saved.digest ≡ lists_digest header lists) × CutRepresents saved.cut lists

-- the bytes are a sound store that belongs to these dealt lists
abbrev pub StoreBelongs : StoreHeader → List (List RecordValue) → List ℕ → Type 0
StoreBelongs header lists image =
    (opened : Option SavedValue) × StoreOpensTo header image opened × IsStoreOf header lists opened

-- both are sound stores, and open to the same
abbrev pub OpenToSame : StoreHeader → List ℕ → List ℕ → Type 0
OpenToSame header old image =
    (opened : Option SavedValue) × StoreOpensTo header old opened × StoreOpensTo header image opened

-- a save over the old store may leave these bytes: they are a sound store that opens as the old one did, or to the new one
abbrev pub OpensOldOrNew : StoreHeader → List ℕ → SavedValue → List ℕ → Type 0
OpensOldOrNew header old saved image = OpenToSame header old image ⊎ StoreOpensTo header image (Some saved)

-- the bytes of a header spell one version and one set of settings
abbrev pub HeadersAreOne : Type 0
HeadersAreOne = (header other : StoreHeader) → IsHeader header → IsHeader other → header_bytes header ≡ header_bytes other
    → header ≡ other

-- a store shows the version of its header: with its settings they are the header
abbrev pub ShowsItsHeader : Type 0
ShowsItsHeader = (header : StoreHeader) (image : List ℕ) → slot_header image ≡ header_bytes header
    → stored_header header.settings image ≡ header

-- under its header each slot of a store holds one thing at most
abbrev pub SlotsHoldOne : Type 0
SlotsHoldOne = (header : StoreHeader) (image : List ℕ) (first second again other_one : Option SavedValue)
    → AreSettings header.settings → StoreHolds header image first second → StoreHolds header image again other_one
    → (first ≡ again) × (second ≡ other_one)

-- a store opens to one thing at most
abbrev pub OpenToOne : Type 0
OpenToOne = (header : StoreHeader) (image : List ℕ) (opened again : Option SavedValue) → AreSettings header.settings
    → StoreOpensTo header image opened → StoreOpensTo header image again → opened ≡ again

-- what `format` leaves with the header that it writes for these settings is a sound store with no gate open
abbrev pub FormatIsEmpty : Type 0
FormatIsEmpty = (settings : StoreSettings) (image : List ℕ) → front_bytes ≤ length image
    → known_slots_of image ≡ closed_known_slots (header_bytes (written_header settings))
    → StoreOpensTo (written_header settings) image None

-- a body fits a slot of the settings' span
abbrev pub BodiesFit : Type 0
BodiesFit = (settings : StoreSettings) (saved : SavedValue) (body : List ℕ) → AreSettings settings
    → IsBody settings.shards (settings_shape settings) saved body → FitsSlot (span_of settings) body

-- a sound store is ready for a put into a slot that isn't the newest
abbrev pub AreReady : Type 0
AreReady = (header : StoreHeader) (slot : ℕ) (image : List ℕ) (first second : Option SavedValue)
    → slot < 2 → StoreHolds header image first second → IsNotNewest slot first second
    → IsReadyForPut (span_of header.settings) slot image

-- a put of a later body over a sound store, into a slot that isn't the newest: each image that it may leave is a sound
-- store, and opens as the old one did, or to the new body
abbrev pub PutsOpenEither : Type 0
PutsOpenEither = (header : StoreHeader) (slot : ℕ) (saved : SavedValue) (body old image : List ℕ)
    (first second : Option SavedValue) → slot < 2 → StoreHolds header old first second → IsNotNewest slot first second
    → IsBody header.settings.shards (settings_shape header.settings) saved body → store_sequence (newest_in first second) < saved.sequence
    → PutMayLeave (span_of header.settings) slot body old image → OpensOldOrNew header old saved image

-- once such a put is done, the store opens to the new body
abbrev pub PutsOpenNew : Type 0
PutsOpenNew = (header : StoreHeader) (slot : ℕ) (saved : SavedValue) (body old image : List ℕ)
    (first second : Option SavedValue) → slot < 2 → StoreHolds header old first second → IsNotNewest slot first second
    → IsBody header.settings.shards (settings_shape header.settings) saved body → store_sequence (newest_in first second) < saved.sequence
    → IsPut (span_of header.settings) slot body old image → StoreOpensTo header image (Some saved)
