pub mod Counted
pub mod Pieces
pub mod Expressions
pub mod Conditions
pub mod Simples
pub mod Statements
