pub mod Said
pub mod Narrow
pub mod Frame
pub mod Rest
pub mod Hours
pub mod Arrive
pub mod ByEdges
mod Worked
