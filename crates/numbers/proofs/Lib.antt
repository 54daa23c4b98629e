pub mod Answers
pub mod Leads
pub mod CallNumbers
