pub mod Sets
pub mod Whole
pub mod Accesses
pub mod Cleared
pub mod Answers
pub mod Through
pub mod Found
