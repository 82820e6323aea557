pub mod Lines
pub mod Outcomes
pub mod RunLines
pub mod Statuses
