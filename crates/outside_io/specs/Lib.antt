pub mod Failed
pub mod MemorySink
pub mod MemorySource
pub mod Reading
pub mod Writing
-- the face: what contracts of other crates cite
pub use Rattle.outside_io.specs.Failed.{FailsByCount, FaultRose, next_count}
pub use Rattle.outside_io.specs.Reading.{ReadsFront}
pub use Rattle.outside_io.specs.Writing.{AppendsFront, AppendsPart, IsBeginning}
