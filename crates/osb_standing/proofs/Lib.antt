pub mod LifeLemmas
pub mod PushLemmas
pub mod ChangeLemmas
pub mod RowLemmas
pub mod ReadLemmas
pub mod ListingLemmas
