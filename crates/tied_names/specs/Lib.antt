pub mod Ties
pub mod Numbers
