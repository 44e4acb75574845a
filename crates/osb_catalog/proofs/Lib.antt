pub mod Views
pub mod IdLemmas
pub mod CatalogTexts
pub mod FaultOrder
pub mod Soundness
pub mod SoundRead
pub mod PlaceLemmas
mod FoundLemmas
