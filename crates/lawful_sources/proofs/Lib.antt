pub mod Passing
pub mod Statements
pub mod Begun
