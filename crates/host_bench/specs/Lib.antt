pub mod Values
pub mod Calls
pub mod CommandValues
pub mod BenchTables
pub mod Pool
pub mod Reach
