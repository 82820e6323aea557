pub mod Own
pub mod Constructs
pub mod Laws
