mod OneByOne
pub mod OneByOneLemmas
mod RunLemmas
mod LoopLemmas
mod CallLemmas
mod HoldLemmas
mod ReadLemmas
mod RunsLemmas
pub mod WholeLemmas
mod FixedLemmas
mod TextLemmas
mod StepLemmas
pub mod StoreLemmas
mod ReplyLemmas
pub mod ShutLemmas
pub mod CrashLemmas
pub mod LostLemmas
mod HandleLemmas
mod LateLemmas
mod GroupLemmas
mod BegunLemmas
mod OpenLemmas
mod FailureLemmas
mod RefusalLemmas
mod RequestLemmas
mod RepeatLemmas
mod ApartLemmas
mod OnceLemmas
mod PatientLemmas
mod HistoryLemmas
mod ActsOnceLemmas
pub mod ReportedLemmas
mod CountLemmas
mod ConversationLemmas
pub mod LastLemmas
mod RepliedLemmas
mod ExchangeLemmas
mod ExchangeGroupLemmas
mod OpenGroupLemmas
mod AskedLemmas
mod AskedCountLemmas
mod ShardLemmas
mod ShardExchangeLemmas
mod LoginLemmas
mod ErrorLemmas
mod BodyLemmas
mod TrimmedRunLemmas
mod TrimmedEpisodeLemmas
mod TrimmedExchangeLemmas
mod Vectors
mod AskedVectors
