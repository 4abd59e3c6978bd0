pub mod WeightsRiseLemmas
pub mod Examples
