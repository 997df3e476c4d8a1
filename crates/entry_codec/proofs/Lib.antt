pub mod Bits
pub mod SubmissionLemmas
pub mod CompletionLemmas
