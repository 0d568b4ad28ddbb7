pub mod Puts
pub mod Entries
pub mod Parts
