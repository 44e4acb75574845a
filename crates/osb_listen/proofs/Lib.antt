pub mod ExchangeLemmas
mod FaultLemmas
mod GroupLemmas
mod HeldLemmas
pub mod PartLemmas
mod PieceLemmas
mod RefusedLemmas
