pub mod Expressions
pub mod SmallParts
pub mod Statements
