pub mod CaptureFile
pub mod FrameRecord
pub mod Records
-- within the crate
pub mod RecordVisitor
-- the face: what contracts of other crates cite
pub use Rattle.frame_records.specs.CaptureFile.{FileHasFrames, FileGives, IsRefusedFile}
pub use Rattle.frame_records.specs.FrameRecord.{records_of}
pub use Rattle.frame_records.specs.Records.{AreRecordsOf, HasRecords}
