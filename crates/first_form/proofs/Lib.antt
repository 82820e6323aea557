pub mod Calls
pub mod Depths
pub mod Expressions
pub mod Numbers
pub mod Outs
pub mod Statements
