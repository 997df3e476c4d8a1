pub mod Slots
pub mod Rings
pub mod Memory
pub mod Lists
pub mod Views
pub mod Halves
pub mod Members
pub mod Positions
