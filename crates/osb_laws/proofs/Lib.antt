pub mod LifeLemmas
mod Rows
pub mod StepLemmas
pub mod AgainLemmas
pub mod WordLemmas
pub mod MapLemmas
pub mod ListingLemmas
pub mod StatusLemmas
mod StateLemmas
mod NameLemmas
mod GoneLemmas
pub mod OpenedLemmas
pub mod ReportedLemmas
pub mod CountLemmas
pub mod FailureLemmas
mod ValueLemmas
mod BodyLemmas
mod CatalogLemmas
mod Vectors
