pub mod Rooms
pub mod Words
pub mod Objects
pub mod Held
