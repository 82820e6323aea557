pub mod Places
pub mod Agreement
pub mod Operands
