pub mod DotWords
pub mod Pages
pub mod Rings
pub mod Told
