pub mod Rings
pub mod Halves
