mod FieldLemmas
mod HeadLemmas
pub mod FrontLemmas
mod StayLemmas
pub mod CutLemmas
mod CallsOwned
mod SendLemmas
