pub mod LinePairLemmas
