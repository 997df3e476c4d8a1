pub mod Faults
pub mod Headings
pub mod JobLines
pub mod JobRuns
pub mod Jobs
pub mod GoneOn
