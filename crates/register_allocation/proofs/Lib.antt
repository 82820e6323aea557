pub mod Places
pub mod Lists
pub mod Laying
pub mod Tables
pub mod Sorting
pub mod Judging
pub mod Small
pub mod Complete
