pub mod RowLemmas
pub mod StoresLemmas
pub mod AnswerLemmas
pub mod StatementLemmas
pub mod TableLemmas
pub mod QueryLemmas
pub mod ResultLemmas
