-- within the crate
pub mod Links
pub mod Ring
pub mod Lists
pub mod Buckets
pub mod Arena
pub mod StreamTable
