pub mod AppendedTextLemmas
pub mod ExamplesOfStatuses
