pub mod Header
pub mod Limits
pub mod Reports
pub mod Answers
pub mod Prefix
