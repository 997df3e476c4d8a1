pub mod Asked
pub mod Commands
pub mod Units
pub mod Worked
