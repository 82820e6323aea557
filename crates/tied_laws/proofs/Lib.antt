pub mod Starts
pub mod Statements
pub mod Sources
