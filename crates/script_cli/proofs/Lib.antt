pub mod Texts
pub mod Pieces
pub mod TextLines
pub mod Runs
pub mod Options
pub mod ToldLines
pub mod DifferenceLaws
pub mod Answers
