pub mod Rising
pub mod Ordered
pub mod Constants
pub mod Mains
