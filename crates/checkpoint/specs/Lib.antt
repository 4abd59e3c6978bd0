pub mod Numbers
pub mod Version
pub mod Lengths
pub mod Header
pub mod Saved
pub mod Body
pub mod Digest
pub mod Store
pub mod Saver
-- within the crate
pub mod Decoding
-- the face: what contracts of other crates cite
pub use Rattle.checkpoint.specs.Body.{IsBody, IsSaved, greatest_sequence}
pub use Rattle.checkpoint.specs.Saved.{SavedValue, saved_value}
unfoldable pub use Rattle.checkpoint.specs.Digest.{header_digest}
pub use Rattle.checkpoint.specs.Digest.{lists_digest}
pub use Rattle.checkpoint.specs.Version.{VersionTakes}
pub use Rattle.checkpoint.specs.Header.{AreSettings, IsHeader, header_bytes, settings_shape, stored_header, written_header}
pub use Rattle.checkpoint.specs.Lengths.{span_of}
pub use Rattle.checkpoint.specs.Store.{StoreBelongs, HasNewest, IsStoreOf}
pub use Rattle.checkpoint.specs.Store.{OpensOldOrNew, StoreOpensTo, SlotHolds}
pub use Rattle.checkpoint.specs.Store.{StoreHolds, newest_in, newest_slot_in, store_positions}
pub use Rattle.checkpoint.specs.Store.{store_sequence, FormatIsEmpty, HeadersAreOne, ShowsItsHeader}
pub use Rattle.checkpoint.specs.Store.{SlotsHoldOne, OpenToOne}
pub use Rattle.checkpoint.specs.Saver.{IsKnownSaver, IsNewestSave, SaverState, IsSafeSaver, DiskMatches}
pub use Rattle.checkpoint.specs.Saver.{saver_after, next_saved}
pub use Rattle.checkpoint.specs.Saved.{saved_in}
pub use Rattle.checkpoint.specs.Saver.{saver_of}
