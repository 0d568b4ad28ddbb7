pub mod CellSet
pub mod Narrowing
pub mod Rows
