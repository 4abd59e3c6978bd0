pub mod BlockNumberLemmas
pub mod VerdictLemmas
pub mod WholeBlockLemmas
pub mod BlockSplitLemmas
pub mod NgFileLemmas
pub mod NgLimitLemmas
pub mod Examples
pub mod KeptVerdictLemmas
pub mod PacketBlockLemmas
pub mod NgStepLemmas
pub mod NgReaderLemmas
mod EitherFormatLemmas
mod FirstReadLemmas
mod EitherReadingLemmas
mod ExamplesOfEitherFormat
