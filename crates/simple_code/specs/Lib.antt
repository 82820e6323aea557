pub mod Code
pub mod Starts
pub mod Laws
