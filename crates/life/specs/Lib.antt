pub mod Kinds
pub mod Life
pub mod Promise
pub mod Replayed
