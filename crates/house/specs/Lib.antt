pub mod Kinds
pub mod Cells
