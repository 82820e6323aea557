pub mod Clipping
pub mod Laws
pub mod Order
pub mod Outcome
pub mod Table
pub mod Value
