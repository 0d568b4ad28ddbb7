pub mod Ready
pub mod Started
pub mod Pressed
pub mod Constrained
pub mod Hours
pub mod Voids
