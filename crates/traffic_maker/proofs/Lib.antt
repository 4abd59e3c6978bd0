pub mod MadeFrameLemmas
pub mod CapturePieceLemmas
pub mod Examples
