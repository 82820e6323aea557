pub mod IfRight
pub mod Maybes
pub mod StatementChoices
pub mod StatementParts
pub mod StatementRefused
pub mod StatementRight
pub mod StatementStops
