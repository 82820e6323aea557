pub mod Running
pub mod Bodies
