pub mod Jumps
pub mod Branches
