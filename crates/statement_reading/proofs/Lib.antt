pub mod AllRight
pub mod BlockRight
pub mod Simples
pub mod Statements
