pub mod Lawful
pub mod Things
pub mod Expressions
pub mod Statements
pub mod Objects
pub mod Returns
pub mod Rows
