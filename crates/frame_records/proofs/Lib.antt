pub mod RecordVisitorLemmas
pub mod FrontLemmas
pub mod Examples
pub mod ExamplesOfReading
