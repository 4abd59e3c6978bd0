pub mod Examples
pub mod ToldLineLemmas
