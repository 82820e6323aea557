pub mod Ahead
pub mod Composed
pub mod Lists
pub mod OneToken
