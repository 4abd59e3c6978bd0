-- A saver: what is known of a store that cuts are saved to.
use Rattle.std.specs.Prelude.{ℕ, ◌≡◌, ◌+◌, ◌<◌, true, false, List, Option, Some, None}
use Rattle.shard_state.specs.{CutValue, cut_positions}
use Rattle.slot_disk.specs.{IfImageKnown, IsOnlyImage, KnownSlotsState, known_slot_open, other_slot_of}
use Rattle.slot_disk.specs.{known_slots_of, after_opening}
use Rattle.checkpoint.specs.Header.{settings_shape}
use Rattle.checkpoint.specs.declared.header.StoreHeader.{StoreHeader}
use Rattle.checkpoint.specs.declared.settings.StoreSettings.{StoreSettings}
use Rattle.checkpoint.specs.declared.newest.Newest.{Newest}
use Rattle.checkpoint.specs.Saved.{SavedValue}
use Rattle.checkpoint.specs.Body.{IsSaved}
use Rattle.checkpoint.specs.Store.{StoreHolds, newest_in, newest_slot_in, store_positions, store_sequence}
use Rattle.checkpoint.specs.Saved.{saved_in}

-- the header of the store, its gates and the bytes of that header, the digest that saves write, and of the newest slot its
-- number (1 where no gate is open), its sequence and its positions (0 where no gate is open)
pub record SaverState : Type 0 where
  pub header : StoreHeader
  pub slots : KnownSlotsState
  pub digest : List ℕ
  pub newest_slot : ℕ
  pub sequence : ℕ
  pub positions : List ℕ

-- this is the newest slot of a store, as far as its gates show: it is open and may have been saved, or no gate is open
abbrev pub IsNewestSave : StoreSettings → KnownSlotsState → Option Newest → Type 0
IsNewestSave settings slots None = (slots.first_open ≡ false) × (slots.second_open ≡ false)
IsNewestSave settings slots (Some newest) = (newest.slot < 2) × (known_slot_open slots newest.slot ≡ true)
    × IsSaved settings.shards (settings_shape settings) (saved_in newest)

-- the saver of a store with these gates, this header, this digest and this newest slot
abbrev pub saver_of : KnownSlotsState → StoreHeader → List ℕ → Option Newest → SaverState
saver_of slots header digest None = record {
  header = header;
  slots = slots;
  digest = digest;
  newest_slot = 1;
  sequence = 0;
  positions = store_positions header.settings None;
}
saver_of slots header digest (Some newest) = record {
  header = header;
  slots = slots;
  digest = digest;
  newest_slot = newest.slot;
  sequence = newest.saved.sequence;
  positions = store_positions header.settings (Some (saved_in newest));
}

-- the bytes are a sound store as the saver knows it: its gates, its header and its newest slot
pub record IsKnownSaver (saver : SaverState) (image : List ℕ) : Type 0 where
  pub slots_are : saver.slots ≡ known_slots_of image
  pub first : Option SavedValue
  pub second : Option SavedValue
  pub holds : StoreHolds saver.header image first second
  pub slot_is : saver.newest_slot ≡ newest_slot_in first second
  pub sequence_is : saver.sequence ≡ store_sequence (newest_in first second)
  pub positions_are : saver.positions ≡ store_positions saver.header.settings (newest_in first second)

-- the bytes are such a store, and a crash leaves nothing else
pub record IsSafeSaver (saver : SaverState) (possible : List ℕ → Type 0) (bytes : List ℕ) : Type 0 where
  pub is_known : IsKnownSaver saver bytes
  pub only : IsOnlyImage bytes possible

-- the disk matches what the saver knows: what a read gives, where it is known, is such a store, and a crash leaves
-- nothing else
abbrev pub DiskMatches : Option (List ℕ) → (List ℕ → Type 0) → SaverState → Type 0
DiskMatches reads possible saver = IfImageKnown reads (IsSafeSaver saver possible)

-- what the next save of a cut writes: the cut, under the next sequence and the saver's digest
abbrev pub next_saved : SaverState → CutValue → SavedValue
next_saved saver cut = record { sequence = saver.sequence + 1; digest = saver.digest; cut = cut }

-- the saver after a save of a cut: it is in the slot that wasn't the newest
abbrev pub saver_after : SaverState → CutValue → SaverState
saver_after saver cut = record saver {
  slots = after_opening saver.slots (other_slot_of saver.newest_slot);
  newest_slot = other_slot_of saver.newest_slot;
  sequence = saver.sequence + 1;
  positions = cut_positions cut;
}
