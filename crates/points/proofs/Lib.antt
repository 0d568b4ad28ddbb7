pub mod Decided
pub mod Counted
pub mod Summed
pub mod Tabled
