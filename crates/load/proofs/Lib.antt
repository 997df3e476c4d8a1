pub mod Loads
pub mod Rounds
pub mod Written
