pub mod Forms
pub mod Copies
pub mod Promised
pub mod Answers
