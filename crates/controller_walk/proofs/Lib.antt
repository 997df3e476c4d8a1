pub mod Along
pub mod Courses
pub mod Same
pub mod Stands
