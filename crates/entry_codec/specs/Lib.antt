pub mod Bytes
pub mod Status
pub mod Hints
pub mod Submission
pub mod Completion
pub mod Worked
