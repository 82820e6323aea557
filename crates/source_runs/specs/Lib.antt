pub mod Shapes
pub mod State
pub mod Runs
pub mod Steps
pub mod Marks
pub mod Calls
pub mod Loops
pub mod Follows
