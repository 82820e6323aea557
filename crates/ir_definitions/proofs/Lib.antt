pub mod Permuted
pub mod Defined
pub mod Read
pub mod Lines
