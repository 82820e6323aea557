pub mod Numbers
pub mod Objects
pub mod Declared
pub mod Lines
