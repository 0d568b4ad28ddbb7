pub mod Meaning
pub mod Steps
pub mod Quorums
pub mod Answering
pub mod Saying
