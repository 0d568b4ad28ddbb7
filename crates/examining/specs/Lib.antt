pub mod Defects
pub mod Checks
pub mod Examine
pub mod Lawful
