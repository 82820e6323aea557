pub mod Ways
pub mod Trees
pub mod Readers
pub mod Laws
