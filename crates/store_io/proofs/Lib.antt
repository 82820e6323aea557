pub mod Begun
pub mod Counted
pub mod Held
pub mod Turns
