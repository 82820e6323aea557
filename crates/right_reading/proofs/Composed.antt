pub mod Alternatives
pub mod Dependent
pub mod Inlined
pub mod Rules
pub mod Shifts
pub mod Steps
