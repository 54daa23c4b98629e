pub mod Past
pub mod Agrees
pub mod Rations
pub mod Policies
