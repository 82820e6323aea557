pub mod Ways
pub mod Points
pub mod Loops
