pub mod Arguments
pub mod Indices
pub mod Places
pub mod Types
