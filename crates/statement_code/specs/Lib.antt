pub mod Blocks
pub mod Code
pub mod Laws
