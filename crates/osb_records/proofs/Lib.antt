pub mod AskLemmas
pub mod ChangesLemmas
pub mod OpenedLemmas
pub mod ReadsLemmas
