pub mod Block
pub mod Section
pub mod Verdict
pub mod NgCapture
pub mod EitherFormat
pub mod Kept
pub mod NgReader
-- within the crate
pub mod NgPart
pub mod FirstBytes
-- the face: what contracts of other crates cite
pub use Rattle.pcapng_frames.specs.EitherFormat.{capture_format}
