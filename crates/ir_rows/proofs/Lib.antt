pub mod Standing
pub mod Objects
pub mod Calls
pub mod Sites
