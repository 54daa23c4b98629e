pub mod Reading
pub mod Refusals
pub mod Judging
pub mod Storing
pub mod Running
pub mod Joining
pub mod Answers
