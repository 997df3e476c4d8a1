pub mod Along
pub mod Faults
pub mod Laws
pub mod Progress
pub mod Serving
pub mod Units
pub mod Walks
pub mod Worked
