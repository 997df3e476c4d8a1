pub mod Runs
pub mod StandsInReceipts
pub mod Tables
pub mod Latest
pub mod Growth
pub mod Keyless
