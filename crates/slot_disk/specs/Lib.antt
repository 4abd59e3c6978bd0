-- disks: what calls and crashes leave
pub mod Images
pub mod Moments
-- the store
pub mod StoreLayout
pub mod Slots
pub mod Putting
-- the disk in memory
pub mod Recorded
pub mod StepEntry
pub mod MemoryDisk
pub mod Overwriting
pub mod RecordedLaws
-- the face: what contracts of other crates cite
pub use Rattle.slot_disk.specs.Images.{IfImageKnown, IfBothKnown, GivesRange, IsTornImage, IsWrittenImage}
pub use Rattle.slot_disk.specs.Images.{IsTornFrom, IsOnlyImage}
pub use Rattle.slot_disk.specs.Moments.{MomentsGoOn, CrashLeaves, IsUnchangedAt}
pub use Rattle.slot_disk.specs.Moments.{CrashLeaves-none}
pub use Rattle.slot_disk.specs.Moments.{CrashLeaves-trans, CrashLeaves-weaker}
pub use Rattle.slot_disk.specs.StoreLayout.{front_bytes, is_gate_open, slot_header, slot_body}
pub use Rattle.slot_disk.specs.StoreLayout.{Closed, Whole, shown_in, slot_content}
unfoldable pub use Rattle.slot_disk.specs.StoreLayout.{number_at}
pub use Rattle.slot_disk.specs.Slots.{KnownSlotsState, known_slot_open, after_opening, known_slots_of}
pub use Rattle.slot_disk.specs.Slots.{closed_known_slots, IsStoreOfKnown, MatchesKnown}
pub use Rattle.slot_disk.specs.Slots.{MatchesKnown-unchanged}
pub use Rattle.slot_disk.specs.Putting.{other_slot_of, IsWhole, IsReadyForPut, FitsSlot, PutMayLeave, IsPut}
