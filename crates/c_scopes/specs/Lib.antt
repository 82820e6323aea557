pub mod Newest
pub mod Scopes
pub mod Tied
