pub mod Lead
pub mod Calls
pub mod Refusals
