pub mod Checking
pub mod Loading
pub mod Performing
pub mod Statuses
