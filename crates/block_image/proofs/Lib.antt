pub mod Laws
pub mod Lending
