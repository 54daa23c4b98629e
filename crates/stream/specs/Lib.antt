pub mod Calls
pub mod Streamed
pub mod Outcomes
