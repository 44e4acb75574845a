pub mod SendingLemmas
pub mod TextLemmas
pub mod PiecesLemmas
