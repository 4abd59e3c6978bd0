pub mod JoinLemmas
pub mod LeaveLemmas
pub mod WalkLemmas
pub mod OrderLemmas
pub mod HomeLemmas
pub mod EntryLemmas
pub mod KeyLemmas
pub mod Examples
