pub mod Findings
pub mod Samples
