pub mod DealtCaptureLemmas
pub mod Examples
