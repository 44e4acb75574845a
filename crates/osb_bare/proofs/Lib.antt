pub mod ListLemmas
pub mod LifeLemmas
pub mod WordLemmas
pub mod LivesLemmas
pub mod ViewLemmas
pub mod ContextLemmas
pub mod CountLemmas
