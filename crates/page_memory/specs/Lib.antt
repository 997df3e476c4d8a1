pub mod Memory
pub mod Pages
pub mod Flat
pub mod Lent
