pub mod States
pub mod Simples
pub mod Starts
