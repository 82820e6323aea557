pub mod Decodings
pub mod Encodings
pub mod Immediates
pub mod Leads
pub mod Output
pub mod Places
pub mod Runs
pub mod Stores
