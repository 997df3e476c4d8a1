pub mod Back
pub mod Spelled
pub mod Joins
