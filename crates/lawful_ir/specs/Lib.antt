pub mod Built
pub mod Lawful
pub mod Positions
pub mod Walk
pub mod Endings
pub mod Laws
