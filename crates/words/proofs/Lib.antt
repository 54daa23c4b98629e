pub mod Rows
pub mod Tables
pub mod Answers
pub mod Room
pub mod Samples
