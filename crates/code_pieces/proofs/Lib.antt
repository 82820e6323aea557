pub mod Growing
mod Branches
