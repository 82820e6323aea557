pub mod Tied
pub mod Sources
pub mod Constants
pub mod Laws
