pub mod BodyLemmas
pub mod UpdateLemmas
