pub mod Shared
pub mod Twice
