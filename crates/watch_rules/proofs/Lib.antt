pub mod PairLemmas
pub mod CrossingLemmas
pub mod AlarmLemmas
pub mod OnceLemmas
pub mod CertainLemmas
pub mod FormulaLemmas
pub mod RaisedPairLemmas
pub mod Examples
