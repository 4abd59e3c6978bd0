pub mod ZippedListLemmas
pub mod OpenSlotLemmas
pub mod ReadingLemmas
pub mod DecidedLemmas
pub mod FaultCountLemmas
pub mod FoundStoreLemmas
pub mod BelongingStoreLemmas
pub mod ExamplesOfOpenings
