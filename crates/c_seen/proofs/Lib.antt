pub mod Alike
pub mod Expressions_seen
pub mod Lists
pub mod Restored
pub mod Sources_seen
pub mod Statements_seen
