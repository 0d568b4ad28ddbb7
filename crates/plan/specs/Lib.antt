pub mod Refusals
pub mod Texts
pub mod Orders
pub mod Courses
pub mod Calls
pub mod Steps
