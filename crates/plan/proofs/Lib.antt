mod Found
mod Hours
mod Leading
mod Shifts
pub mod Checked
pub mod Seen
