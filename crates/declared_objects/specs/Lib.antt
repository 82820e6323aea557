pub mod Initialisers
pub mod Lengths
