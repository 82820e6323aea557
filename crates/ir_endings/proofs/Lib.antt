pub mod Endings
pub mod Bodies
pub mod Functions
pub mod Called
pub mod Calls
pub mod Calling
