pub mod LawfulStatements
pub mod Simples
pub mod Blocks
pub mod Agree
pub mod Whole
