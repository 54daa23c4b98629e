pub mod Maps
pub mod Leads
pub mod Actions
pub mod Refusals
