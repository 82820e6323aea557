pub mod Orders
pub mod Calls
pub mod Definitions
pub mod Reaching
