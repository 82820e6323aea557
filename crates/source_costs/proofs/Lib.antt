pub mod Equations
pub mod Rooms
pub mod Calls
pub mod Expressions
pub mod Starts
pub mod Statements
pub mod Sources
