pub mod Expressions
pub mod Sites
