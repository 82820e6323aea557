pub mod Afters
pub mod Endings
pub mod Tokens
pub mod Words
