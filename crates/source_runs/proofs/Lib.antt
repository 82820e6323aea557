pub mod Following
pub mod Numbers
pub mod Operators
pub mod Turning
pub mod Writing
