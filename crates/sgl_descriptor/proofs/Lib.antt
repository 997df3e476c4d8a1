pub mod Bytes
pub mod Counts
pub mod Reserved
pub mod Spells
