pub mod Listed
pub mod Shown
pub mod ToldRuns
