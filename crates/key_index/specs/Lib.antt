pub use Rattle.key_index.specs.Entries.{KeyEntries, HaveTurnedAway}
pub use Rattle.key_index.specs.KeyIndex.{HoldsKeys, HoldsKeysButOne}
pub mod Entries
pub mod KeyIndex
-- within the crate
pub mod Homes
pub mod HomeMarks
pub mod Chains
pub mod SortedPlaces
