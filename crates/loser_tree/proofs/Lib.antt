pub mod LoserNodeLemmas
pub mod ClimbNodeLemmas
pub mod NumberedNodeLemmas
pub mod Examples
