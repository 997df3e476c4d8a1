pub mod BenchTables
pub mod Collecting
pub mod TouchingAll
