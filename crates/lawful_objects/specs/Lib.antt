pub mod Laws
pub mod Integers
