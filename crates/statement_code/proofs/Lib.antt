pub mod Choosing
pub mod Turns
pub mod Statements
pub mod Parts
pub mod Blocks
