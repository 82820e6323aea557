pub mod Lawful
pub mod Agreement
