pub mod FirstPutLemmas
pub mod NewSaverLemmas
