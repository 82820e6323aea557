pub mod Pieces
pub mod Entries
pub mod Sites
pub mod Laws
