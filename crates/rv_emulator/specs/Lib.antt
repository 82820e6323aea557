pub mod After
pub mod Endings
pub mod Pauses
pub mod Steps
