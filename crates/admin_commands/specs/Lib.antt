pub mod Entries
pub mod Verdicts
pub mod Creations
pub mod Identify
