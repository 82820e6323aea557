pub mod Depth
pub mod Starts
