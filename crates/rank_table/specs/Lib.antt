-- within the crate
pub mod SlotOrder
pub mod Slot
pub mod Words
pub mod Ranks
pub mod Times
pub mod Marks
pub mod Steps
pub mod RankTable
