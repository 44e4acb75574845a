pub mod StopLemmas
pub mod LivesLemmas
pub mod FoundLemmas
pub mod RunLemmas
