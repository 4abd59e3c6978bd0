pub mod Bounds
-- within the crate
pub mod Uppers
pub mod Members
pub mod Numbers
pub mod LineIndex
-- the face: what contracts of other crates cite
pub use Rattle.conditioned_bounds.specs.Bounds.{AreNarrow, HoldWeights, prefixes_asked, bound_of}
pub use Rattle.conditioned_bounds.specs.Members.{member_limit}
