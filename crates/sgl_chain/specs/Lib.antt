pub mod Chains
pub mod Joining
pub mod Laws
pub mod Spells
pub mod WorkedList
