pub mod Records
pub mod Header
pub mod Hand
pub mod Taken
pub mod Call
pub mod Streamed
pub mod Outcomes
