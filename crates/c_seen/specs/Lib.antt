pub mod Sources
pub mod Statements
pub mod Declarations
pub mod Expressions
pub mod Meanings
pub mod Functions
