pub mod ChangedPlaceLemmas
pub mod PassFoldLemmas
pub mod PassReadLemmas
pub mod WaitLemmas
pub mod PassCutLemmas
pub mod Examples
pub mod ExamplesOfReads
