pub mod Input
pub mod StdSink
pub mod StoreFile
pub mod Unused
-- the face: what contracts of other crates cite
pub use Rattle.system_io.specs.StdSink.{sink_contents, sink_faults}
pub use Rattle.system_io.specs.Unused.{IsUnusedDisk, IsUnusedInput, IsUnusedSink}
