mod TargetLemmas
mod SegmentLemmas
mod ContentLemmas
mod PlaceLemmas
mod CredentialLemmas
mod Finds
mod AskLemmas
