pub mod Newest
pub mod Ties
