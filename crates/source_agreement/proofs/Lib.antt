pub mod Objects
pub mod Orders
pub mod Numbers
pub mod Calls
pub mod Whole
