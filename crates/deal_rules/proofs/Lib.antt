pub mod ShardListLemmas
pub mod DealingLemmas
pub mod Examples
