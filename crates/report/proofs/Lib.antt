pub mod Reports
pub mod Answers
pub mod Held
pub mod Whole
pub mod Meaning
pub mod Samples
pub mod Long
