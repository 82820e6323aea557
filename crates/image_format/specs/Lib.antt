pub mod Entries
pub mod ImageBytes
pub mod Parts
pub mod Readable
pub mod Reading
pub mod Rules
pub mod Runs
pub mod RunsAlike
