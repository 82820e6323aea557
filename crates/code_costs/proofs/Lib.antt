pub mod Pieces
pub mod Sites
pub mod Expressions
pub mod Conditions
pub mod Simples
pub mod Statements
