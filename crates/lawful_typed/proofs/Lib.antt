pub mod Numbers
pub mod Integers
pub mod Few
pub mod Lawful
