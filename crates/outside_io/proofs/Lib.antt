pub mod SentTextLemmas
pub mod MemorySourceLemmas
pub mod Examples
