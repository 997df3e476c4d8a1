pub mod Building
pub mod Fewest
pub mod Padding
pub mod Lending
pub mod Laying
pub mod Comparing
pub mod Pointers
