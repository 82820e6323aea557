pub mod Listed
pub mod Many
