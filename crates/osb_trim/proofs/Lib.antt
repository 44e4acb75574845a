pub mod LifeLemmas
pub mod PartLemmas
pub mod WholeLemmas
pub mod LivesLemmas
pub mod ViewLemmas
pub mod AnswerLemmas
pub mod StepLemmas
pub mod FrontLemmas
pub mod MatchLemmas
mod AskLemmas
mod PlanLemmas
mod TrimLemmas
mod CountLemmas
