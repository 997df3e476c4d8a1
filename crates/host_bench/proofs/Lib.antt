pub mod KeptRows
pub mod Benches
pub mod PageBytes
