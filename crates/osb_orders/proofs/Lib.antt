pub mod LastLemmas
pub mod MapLemmas
pub mod ListedLemmas
pub mod ViewLemmas
pub mod GrowLemmas
