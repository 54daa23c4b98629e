pub mod Chains
pub mod Leading
