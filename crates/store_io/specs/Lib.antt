pub mod Entries
pub mod Failing
pub mod Held
pub mod Outside
pub mod Stream
