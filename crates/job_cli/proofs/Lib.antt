pub mod JobRuns
pub mod Told
