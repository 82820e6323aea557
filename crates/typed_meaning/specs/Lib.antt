pub mod Expressions
pub mod Statements
pub mod Observed
pub mod Laws
