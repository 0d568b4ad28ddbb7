mod TableReads
mod Verdict
pub mod Feeding
