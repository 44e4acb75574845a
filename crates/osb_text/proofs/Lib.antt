mod BackLemmas
pub mod CompactTexts
pub mod Exactly
pub mod Orders
mod Parts
mod Ranges
mod ReadLemmas
pub mod ReadableLemmas
mod Utf8
