pub mod Folding
pub mod Returning
