pub mod Telling
pub mod SparseGiven
pub mod SparseBytes
pub mod SparsePools
pub mod Fetched
pub mod FaultObjects
