pub mod FeedingLemmas
pub mod CallLemmas
pub mod Examples
mod GatheredLemmas
pub mod ExamplesOfThreads
