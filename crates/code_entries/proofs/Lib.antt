pub mod Made
pub mod Pieces
pub mod Expressions
pub mod Conditions
pub mod Simples
pub mod Statements
pub mod Sites
