pub mod Examples
pub mod WrittenLineLemmas
