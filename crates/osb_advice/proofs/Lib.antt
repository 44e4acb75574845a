pub mod Pushed
pub mod NameLemmas
pub mod Reasons
pub mod NothingLemmas
