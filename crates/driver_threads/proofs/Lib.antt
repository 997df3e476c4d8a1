pub mod UnderWay
pub mod Carried
mod Crossing
